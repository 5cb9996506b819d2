-- Private: how far a branch is checked, line by line.
use Rattle.std.specs.Prelude.{◌≡◌, ℕ, ◌+◌, ◌-◌, ◌^◌, min, None, List, length}
use Rattle.sm_syntax.specs.text.Sorts.{Sorts}
use Rattle.sm_term.specs.Terms.{Tree}
use Rattle.sm_theory.specs.Facts.{BranchFact}
use Rattle.sm_theory.specs.SortedFacts.{AreFactsSorted}
use Rattle.sm_theory.specs.Views.{AllStand}
use Rattle.sm_theory.specs.declared.line.CertLine.{CertLine}
use Rattle.sm_theory.specs.declared.fact.Fact.{Fact}
use Rattle.sm_cert.specs.Certificates.{Certificate, Theories, first_bad, lines_in}
use Rattle.sm_cert.specs.Views.{lines_before}

-- the number of a line as it is counted, which stops at the greatest `u64`
abbrev pub line_number : ℕ → ℕ
line_number n = min n (2 ^ 64 - 1)

-- lines lead from facts to later facts: with any certificate under them, what is bad is what is bad
-- of the certificate on those, for which a branch of the program stands
pub record Arrives (theories : Theories) (sorts : Sorts) (trees : List Tree) (facts : List BranchFact)
    (n : ℕ) (lines : List CertLine) (path : List Fact) (at : ℕ) : Type 0 where
  pub later : List BranchFact
  pub stand : AllStand sorts trees path later
  pub fine : AreFactsSorted sorts later
  pub count : at ≡ line_number (n + length lines)
  pub leads :
      (c : Certificate) → first_bad theories sorts facts n (lines_before trees lines c)
      ≡ first_bad theories sorts later (n + length lines) c

-- a certificate of which line n is the first closes the branch, and the number after it is told
abbrev pub Passes : Theories → Sorts → List BranchFact → ℕ → Certificate → ℕ → Type 0
Passes theories sorts facts n c next =
    (first_bad theories sorts facts n c ≡ None) × (next ≡ line_number (n + lines_in c))
