-- The certificates so far are skipped.
use Rattle.sm_check.proofs.Imports.{◌≡◌, ◌+◌, ◌++◌, ℕ, List, length, drop, Subject, Reached, reads_exact, ComesTo, certificates_of, progress_at, CloseFirst}
use Rattle.sm_check.specs.Aside.{joined}
use Rattle.sm_check.proofs.AsideLemmas.{Skips}
use Rattle.sm_check.proofs.taken_lines.TakenLines.skip.Given as goal

abbrev pub invariant-loop-lines : goal.invariant-loop-lines
invariant-loop-lines l = record {
  number :
      l.self.number + length (joined (certificates_of (drop l.lines-index l.certificates)))
      ≡ l.initial.self.number + length (joined (certificates_of l.certificates));
  skips :
      (s : Subject) (r : Reached) (more : List (List ℕ))
      (t : ComesTo l.initial.self (joined (certificates_of l.certificates) ++ more) s r) →
      CloseFirst (reads_exact t.at) s.sorts (progress_at s t.at).terms (progress_at s t.at).pending (certificates_of l.certificates) →
      Skips l.self s r more (certificates_of (drop l.lines-index l.certificates));
}
