-- One inequality more.
use Rattle.sm_template.proofs.Imports.{refl, ap, subst, take_all, trees_in, AddsForms, bounds_in}
use Rattle.sm_template.proofs.BoundsMade.{bound_added}
use Rattle.sm_template.proofs.guards.put_bounds.Goals as goal

pub loop-b-preserved : goal.loop-b-preserved
loop-b-preserved c v ready =
    bound_added v c.args.bounds.now c.loop-b.b-index (0, 0) c.args.list.now.items c.loop-b.list.items c.push.new.self.items _ refl
    c.loop-b-test.true ready c.in_ok-push.ensures.items (c.loop-b.invariant v ready)

pub returns : goal.returns
returns c v ready =
    subst (AddsForms v v c.args.list.now.items c.loop-b.list.items)
    (ap (bounds_in (trees_in v)) (take_all c.loop-b.b-index c.args.bounds.now c.loop-b-test.false))
    (c.loop-b.invariant v ready)
