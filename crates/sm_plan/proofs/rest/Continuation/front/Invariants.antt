-- The slices behind come first, and what is left to take behind them.
use Rattle.sm_plan.proofs.Imports.{◌≡◌, ◌≤◌, length, take, drop, End, front, frames_before, rest_code}
use Rattle.sm_plan.proofs.rest.Continuation.front.Given as goal

abbrev pub invariant-loop-place : goal.invariant-loop-place
invariant-loop-place l =
    (l.place ≤ length l.self.frames.items)
    × (frames_before (drop l.place l.self.frames.items) (front l.left (frames_before (take l.place l.self.frames.items) End))
    ≡ front l.count (rest_code l.self))

abbrev pub decreases-loop-place : goal.decreases-loop-place
decreases-loop-place l = l.place
