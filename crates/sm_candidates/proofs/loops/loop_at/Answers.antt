-- The state at loops is what is asked for.
use Rattle.sm_candidates.proofs.loops.loop_at.Goals as goal

pub returns-in_ok-state_at-in-Some : goal.returns-in_ok-state_at-in-Some
returns-in_ok-state_at-in-Some c = c.in_ok-state_at-in-Some.ensures
