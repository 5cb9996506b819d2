-- Nothing stands in the slices behind.
use Rattle.sm_plan.proofs.Imports.{◌≡◌, ◌≤◌, length, take, End, frames_before, rest_code}
use Rattle.sm_plan.proofs.rest.Continuation.first.Given as goal

abbrev pub invariant-loop-place : goal.invariant-loop-place
invariant-loop-place l =
    (l.place ≤ length l.self.frames.items) × (frames_before (take l.place l.self.frames.items) End ≡ rest_code l.self)

abbrev pub decreases-loop-place : goal.decreases-loop-place
decreases-loop-place l = l.place
