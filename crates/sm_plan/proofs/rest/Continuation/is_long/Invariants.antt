-- The slices behind have the statements that were counted off.
use Rattle.sm_plan.proofs.Imports.{◌≡◌, ◌≤◌, length, take, End, is_long, frames_before, rest_code}
use Rattle.sm_plan.proofs.rest.Continuation.is_long.Given as goal

abbrev pub invariant-loop-place : goal.invariant-loop-place
invariant-loop-place l =
    (l.place ≤ length l.self.frames.items)
    × (is_long l.left (frames_before (take l.place l.self.frames.items) End) ≡ is_long l.count (rest_code l.self))

abbrev pub decreases-loop-place : goal.decreases-loop-place
decreases-loop-place l = l.place
