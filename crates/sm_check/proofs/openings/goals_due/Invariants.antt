-- No more are counted than are wanted.
use Rattle.std.proofs.Common.{◌≤◌, length}
use Rattle.sm_check.proofs.openings.goals_due.Given as goal

abbrev pub invariant-loop-place : goal.invariant-loop-place
invariant-loop-place l = record { few : l.count ≤ 64; within : l.place ≤ length l.walk-inside.waiting.items }

abbrev pub decreases-loop-place : goal.decreases-loop-place
decreases-loop-place l = l.place
