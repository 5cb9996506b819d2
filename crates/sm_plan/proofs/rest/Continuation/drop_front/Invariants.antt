-- What is left to drop is to be dropped from the slices that are left.
use Rattle.sm_plan.proofs.Imports.{◌≡◌, length, rest_after, rest_code}
use Rattle.sm_plan.proofs.rest.Continuation.drop_front.Given as goal

abbrev pub invariant-loop-place : goal.invariant-loop-place
invariant-loop-place l =
    (l.place ≡ length l.self.frames.items) × (rest_after l.left (rest_code l.self) ≡ rest_after l.count (rest_code l.fn.self))

abbrev pub decreases-loop-place : goal.decreases-loop-place
decreases-loop-place l = l.place
