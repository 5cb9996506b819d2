-- The sums that were passed are marked with their forms.
use Rattle.sm_certify.proofs.Imports.{◌≡◌, ◌≤◌, ◌+◌, drop, length, mark_at, AreMarked}
use Rattle.sm_certify.proofs.marks.mark_down.Given as goal

abbrev pub invariant-loop-left : goal.invariant-loop-left
invariant-loop-left l = record {
  within : l.left ≤ length l.elims;
  count : length l.marks ≡ l.first + length l.elims;
  marked : AreMarked (mark_at l.marks) (l.first + l.left) (drop l.left l.elims) l.bad;
}

abbrev pub decreases-loop-left : goal.decreases-loop-left
decreases-loop-left l = l.left
