-- The lines so far were taken.
use Rattle.sm_check.proofs.Imports.{◌≡◌, ◌+◌, ◌++◌, ℕ, List, length, Subject, Reached, ComesTo, ended_in}
use Rattle.sm_check.proofs.taken_lines.TakenLines.check_all.Given as goal

abbrev pub invariant-loop-line : goal.invariant-loop-line
invariant-loop-line l = record {
  number : l.self.number + length (ended_in l.left) ≡ l.initial.self.number + length (ended_in l.bytes);
  comes :
      (s : Subject) (r : Reached) (more : List (List ℕ)) → ComesTo l.initial.self (ended_in l.bytes ++ more) s r →
      ComesTo l.self (ended_in l.left ++ more) s r;
}

abbrev pub decreases-loop-line : goal.decreases-loop-line
decreases-loop-line l = length l.left
