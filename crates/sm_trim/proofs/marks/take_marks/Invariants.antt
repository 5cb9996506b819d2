-- The marks so far are taken off.
use Rattle.sm_trim.proofs.Imports.{◌≡◌, ◌≤◌, ◌+◌, ◌-◌, ℕ, Bool, some_pass, AreMarks}
use Rattle.sm_trim.proofs.marks.take_marks.Given as goal

abbrev pub invariant-loop-left : goal.invariant-loop-left
invariant-loop-left l = record {
  within : l.left ≤ l.count;
  taken : (at : ℕ) (needed : ℕ → Bool) → AreMarks (at + l.count) needed l.fn.marks →
      (l.one ≡ some_pass (l.count - l.left) (at + l.left) needed) × AreMarks (at + l.left) needed l.marks;
}

abbrev pub decreases-loop-left : goal.decreases-loop-left
decreases-loop-left l = l.left
