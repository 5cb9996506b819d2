-- Cited by public clauses: what trimming makes of a certificate, and its laws.
use Rattle.std.specs.Prelude.{◌≡◌, ℕ, List, [], length}
use Rattle.sm_syntax.specs.text.Sorts.{Sorts}
use Rattle.sm_theory.specs.Facts.{BranchFact}
use Rattle.sm_cert.specs.Certificates.{Certificate, Closes}
use Rattle.sm_trim.specs.Used.{IsUsed}
use Rattle.sm_trim.specs.Pruned.{pruned, closed_up}

-- a certificate before which `at` facts stand, without the lines that aren't needed
abbrev pub trimmed : ℕ → Certificate → Certificate
trimmed at c = closed_up [] at (pruned at c)

-- it closes the branch that the certificate closes
abbrev pub TrimmedCloses : Type 0
TrimmedCloses =
    (sorts : Sorts) (facts : List BranchFact) (c : Certificate) →
    Closes sorts facts c → Closes sorts facts (trimmed (length facts) c)

-- each line of it is used
abbrev pub TrimmedIsUsed : Type 0
TrimmedIsUsed = (at : ℕ) (c : Certificate) → IsUsed at (trimmed at c)

-- a certificate of which each line is used is left as it is
abbrev pub UsedStays : Type 0
UsedStays = (at : ℕ) (c : Certificate) → IsUsed at c → trimmed at c ≡ c

-- to trim twice is to trim once
abbrev pub TrimmedTwice : Type 0
TrimmedTwice = (at : ℕ) (c : Certificate) → trimmed at (trimmed at c) ≡ trimmed at c
