-- One more state waits.
use Rattle.sm_candidates.proofs.Imports.{sym, subst, trees_in, sorts_in, AreSuccessorsReady, ArePlacesReady, AreWaitingReady}
use Rattle.sm_candidates.proofs.WaitsLemmas.{with_one, last_state, last_place}
use Rattle.sm_candidates.proofs.walking.put_states.Goals as goal

pub loop-next-preserved : goal.loop-next-preserved
loop-next-preserved c = λ v a b d.
    let h = c.loop-next.invariant v a b d in
    let ss = last_state (sorts_in v) (trees_in v) c.pop.new.self.items c.in-Some.next
    (subst (AreSuccessorsReady (sorts_in v) (trees_in v)) c.in-Some.ensures.items h.1) in
    let ps = last_place v c.pop-in-Some.new.self.items c.in-Some-pop.cursor
    (subst (ArePlacesReady v) c.in-Some-pop.ensures.items h.2) in
    let one = c.waiting_at-more.ensures v ss.1 ps.1 in (
      subst (AreWaitingReady v) (sym c.in_ok-push.ensures.items) (with_one v c.loop-next.waiting.items c.waiting_at-more.result h.0 one),
      ss.0,
      ps.0,
    )

pub returns-in_default-pop : goal.returns-in_default-pop
returns-in_default-pop c = λ v a b d. (c.loop-next.invariant v a b d).0

pub returns : goal.returns
returns c = λ v a b d. (c.loop-next.invariant v a b d).0
