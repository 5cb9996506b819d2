-- The certificates so far were taken.
use Rattle.sm_check.proofs.Imports.{◌≡◌, ◌+◌, ◌++◌, ℕ, List, length, drop, Subject, Reached, ComesTo, certificates_of}
use Rattle.sm_check.specs.Aside.{joined}
use Rattle.sm_check.proofs.taken_lines.TakenLines.check_each.Given as goal

abbrev pub invariant-loop-lines : goal.invariant-loop-lines
invariant-loop-lines l = record {
  number :
      l.self.number + length (joined (certificates_of (drop l.lines-index l.certificates)))
      ≡ l.initial.self.number + length (joined (certificates_of l.certificates));
  comes :
      (s : Subject) (r : Reached) (more : List (List ℕ)) →
      ComesTo l.initial.self (joined (certificates_of l.certificates) ++ more) s r →
      ComesTo l.self (joined (certificates_of (drop l.lines-index l.certificates)) ++ more) s r;
}
