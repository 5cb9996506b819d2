-- One more state waits.
use Rattle.sm_check.proofs.Imports.{reverse, sym, subst, AreSuccessorsReady, waits_at, AreWaitingReady}
use Rattle.sm_check.proofs.OpenedLemmas.{put_state, successors_apart, ready_put}
use Rattle.sm_check.proofs.opened.put_states.Goals as goal

pub loop-next-preserved : goal.loop-next-preserved
loop-next-preserved c =
    let next = c.in-Some.next in
    let old = c.loop-next.waiting.items in
    let new = c.push.new.self.items in
    let fewer = c.pop.new.self.items in
    record {
      put =
          put_state c.args.shared c.args.above c.args.states.items c.loop-next.left.items fewer next old new (reverse c.args.waiting.now.items)
          c.in-Some.ensures.items c.in_ok-push.ensures.items c.loop-next.invariant.put;
      ready = λ sorts trees states waiting.
          let both = c.loop-next.invariant.ready sorts trees states waiting in
          let rest = successors_apart sorts trees fewer next (subst (AreSuccessorsReady sorts trees) c.in-Some.ensures.items both.0) in (
            rest.0,
            ready_put sorts trees old new (waits_at c.args.shared c.args.above next) c.in_ok-push.ensures.items both.1 rest.1.state,
          );
    }

pub returns-in_err-push-clause-ready : goal.returns-in_err-push-clause-ready
returns-in_err-push-clause-ready c = λ sorts trees states waiting.
    subst (AreWaitingReady sorts trees) (sym c.in_err-push.ensures.items) (c.loop-next.invariant.ready sorts trees states waiting).1

pub returns-clause-ready : goal.returns-clause-ready
returns-clause-ready c = λ sorts trees states waiting. (c.loop-next.invariant.ready sorts trees states waiting).1
