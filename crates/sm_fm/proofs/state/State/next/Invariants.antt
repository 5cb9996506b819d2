-- The state is seen as it was.
use Rattle.sm_fm.proofs.Imports.{◌≡◌, taking, IsSound}
use Rattle.sm_fm.proofs.state.State.next.Given as goal

abbrev pub invariant-loop-self : goal.invariant-loop-self
invariant-loop-self l = record { sound : IsSound l.self; same : taking l.self ≡ taking l.initial.self }

abbrev pub decreases-loop-self : goal.decreases-loop-self
decreases-loop-self l = l.self.more
