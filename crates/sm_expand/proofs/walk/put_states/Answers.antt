-- One more state waits.
use Rattle.std.proofs.Common.{[], reverse, refl, sym, append-nil}
use Rattle.sm_expand.proofs.FormsLemmas.{state_put}
use Rattle.sm_expand.proofs.walk.put_states.Goals as goal
use Rattle.sm_expand.proofs.PlacedLemmas.{fewer_left}

pub loop-next-init : goal.loop-next-init
loop-next-init c = record {
  put = ([], [], sym (append-nil _), sym (append-nil _), refl, refl);
  same = c.requires;
}

pub loop-next-preserved-in-Continue-1 : goal.loop-next-preserved-in-Continue-1
loop-next-preserved-in-Continue-1 c =
    let i = c.loop-next in
    let next = c.in-Some.next in
    let cursor = c.in-Some-pop.cursor in
    record {
      put =
          state_put c.args.shared c.args.states.items i.left.items c.pop.new.self.items next c.args.cursors.items i.plans.items
          c.pop-in-Some.new.self.items cursor i.waiting.items c.push.new.self.items (reverse c.args.waiting.now.items)
          (record { shared = c.args.shared; kept = next.kept; more = next.more; state = next.state; cursor = cursor })
          c.in-Some.ensures.items c.in-Some-pop.ensures.items c.in_ok-push.ensures.items refl i.invariant.put;
      same =
          fewer_left i.left.items c.pop.new.self.items next i.plans.items c.pop-in-Some.new.self.items cursor c.in-Some.ensures.items
          c.in-Some-pop.ensures.items i.invariant.same;
    }
