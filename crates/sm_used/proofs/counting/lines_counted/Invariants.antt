-- The lines so far are read and counted, and the others are left.
use Rattle.sm_used.proofs.Imports.{Ok, Bool, length, Progress, Subject, Underway, IsAt}
use Rattle.sm_used.proofs.CountedLemmas.{Goes, Reads}
use Rattle.sm_used.proofs.counting.lines_counted.Given as goal

abbrev pub invariant-loop-left : goal.invariant-loop-left
invariant-loop-left l = record {
  read : Reads l.initial.left l.rows.items l.left;
  counted : (s : Subject) (exact : Bool) (p : Progress) → IsAt l.initial.checker s (Ok (Underway exact p)) →
      Goes s exact p l.rows.items l.checker;
}

abbrev pub decreases-loop-left : goal.decreases-loop-left
decreases-loop-left l = length l.left
