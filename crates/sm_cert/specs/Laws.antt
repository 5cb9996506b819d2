-- Cited by public clauses: what certificates show, and where else they do.
use Rattle.std.specs.Prelude.{ℕ, List, length}
use Rattle.sm_syntax.specs.text.Sorts.{Sorts}
use Rattle.sm_theory.specs.Facts.{BranchFact, IsContradictory}
use Rattle.sm_theory.specs.SortedFacts.{AreFactsSorted}
use Rattle.sm_theory.specs.Moved.{StandAmong}
use Rattle.sm_cert.specs.Certificates.{Certificate, Closes}
use Rattle.sm_cert.specs.NamedTerms.{IsCertificateSorted}
use Rattle.sm_cert.specs.MovedTrees.{moved_certificate, NamesWhatItReads, moved_past}

-- where a certificate closes a branch, no structure makes all facts of the branch hold
abbrev pub ClosedIsContradictory : Type 0
ClosedIsContradictory =
    (sorts : Sorts) (facts : List BranchFact) (c : Certificate) → AreFactsSorted sorts facts →
    IsCertificateSorted sorts c → Closes sorts facts c → IsContradictory facts

-- a certificate whose lines read only the facts that they name closes each other branch on which the
-- facts stand, with their numbers there
abbrev pub ClosesMoved : Type 0
ClosesMoved =
    (sorts : Sorts) (move : ℕ → ℕ) (facts others : List BranchFact) (c : Certificate) →
    StandAmong move facts others → NamesWhatItReads c → Closes sorts facts c →
    Closes sorts others (moved_certificate (moved_past move (length facts) (length others)) c)
