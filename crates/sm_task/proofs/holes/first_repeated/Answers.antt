use Rattle.sm_task.proofs.Imports.{◌∙◌, ap, add-one, drop-cons, first_repeated}
use Rattle.sm_syntax.proofs.Repeats.{first_repeated-new, added_new}
use Rattle.sm_task.proofs.holes.first_repeated.Goals as goal

pub loop-hole-preserved : goal.loop-hole-preserved
loop-hole-preserved c =
    rw add-one
    (c.loop-hole.invariant ∙
    ap (first_repeated c.loop-hole.seen.keys) (drop-cons c.args.holes.now c.loop-hole.hole-index 0 c.loop-hole-test.true) ∙
    first_repeated-new c.loop-hole.seen.keys c.insert.new.self.keys _ _
    (added_new _ c.in_ok-insert.field-0 c.in_ok-insert.ensures.added c.if-not-branch.false)
    c.in_ok-insert.ensures.updates.0)
