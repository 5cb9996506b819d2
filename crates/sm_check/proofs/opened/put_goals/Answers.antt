-- The branch of one more goal waits.
use Rattle.std.proofs.Common.{[], reverse, refl, sym, append-nil}
use Rattle.sm_check.proofs.OpenedLemmas.{put_goal, ready_put}
use Rattle.sm_check.proofs.opened.put_goals.Goals as goal

pub loop-goal-init : goal.loop-goal-init
loop-goal-init c = record {
  put = ([], [], sym (append-nil _), tt, refl);
  ready = λ sorts trees stores waiting. waiting;
}

pub loop-goal-preserved : goal.loop-goal-preserved
loop-goal-preserved c =
    let old = c.loop-goal.waiting.items in
    let new = c.push.new.self.items in
    let w = c.in_ok-denied.field-0 in
    record {
      put =
          put_goal c.args.shared c.args.stores.now.value c.args.goals.list.items c.loop-goal.left.items c.pop.new.self.items c.in-Some.goal old new
          (reverse c.args.waiting.now.items) w c.in-Some.ensures.items c.in_ok-push.ensures.items c.in_ok-denied.ensures.denied
          c.loop-goal.invariant.put;
      ready = λ sorts trees stores waiting.
          ready_put sorts trees old new w c.in_ok-push.ensures.items (c.loop-goal.invariant.ready sorts trees stores waiting)
          (c.in_ok-denied.ensures.ready sorts trees stores);
    }
