-- Cited by public clauses: certificates, which are trees of lines, and when one closes a branch.
use Rattle.std.specs.Prelude.{◌≡◌, ℕ, suc, ◌+◌, max, nat_lt, if◌then◌else◌, Option, Some, None, List, [], ◌∷◌, ◌++◌}
use Rattle.sm_syntax.specs.text.Sorts.{Sorts}
use Rattle.sm_theory.specs.Facts.{BranchFact}
use Rattle.sm_theory.specs.Lines.{CertificateLine}
use Rattle.sm_theory.specs.Equality.{or_other}
use Rattle.sm_theory.specs.Ways.{Ways, ways_with, adds}
use Rattle.sm_theory.specs.Laws.{TheoryAdds}

-- a certificate
pub data Certificate : Type 0 where
  -- a line that adds facts, and what stands under it
  Next : CertificateLine → Certificate → Certificate
  -- a line that closes the branch
  Closed : CertificateLine → Certificate
  -- a line that splits the branch, and what stands under either part
  Split : CertificateLine → Certificate → Certificate → Certificate

-- how many lines there are
abbrev pub lines_in : Certificate → ℕ
lines_in (Next line c) = suc (lines_in c)
lines_in (Closed line) = 1
lines_in (Split line c d) = suc (lines_in c + lines_in d)

-- the greatest number of splits that stand above a line
abbrev pub splits_above : Certificate → ℕ
splits_above (Next line c) = splits_above c
splits_above (Closed line) = 0
splits_above (Split line c d) = suc (max (splits_above c) (splits_above d))

-- a line that must go on in one way: what follows there, or else this line is bad
abbrev pub in_one_way : Ways → ℕ → (List BranchFact → Option ℕ) → Option ℕ
in_one_way None n next = Some n
in_one_way (Some []) n next = Some n
in_one_way (Some (way ∷ [])) n next = next way
in_one_way (Some (way ∷ other ∷ rest)) n next = Some n

-- a line that must close the branch
abbrev pub in_no_way : Ways → ℕ → Option ℕ
in_no_way None n = Some n
in_no_way (Some []) n = None
in_no_way (Some (way ∷ rest)) n = Some n

-- a line that must split the branch
abbrev pub in_two_ways : Ways → ℕ → (List BranchFact → List BranchFact → Option ℕ) → Option ℕ
in_two_ways None n next = Some n
in_two_ways (Some []) n next = Some n
in_two_ways (Some (way ∷ [])) n next = Some n
in_two_ways (Some (way ∷ other ∷ [])) n next = next way other
in_two_ways (Some (way ∷ other ∷ third ∷ rest)) n next = Some n

-- what theories add, by the facts of the branch
abbrev pub Theories : Type 0
Theories = List BranchFact → CertificateLine → Option BranchFact

-- what the first of three theories adds that adds a fact
abbrev pub first_of_three : TheoryAdds → TheoryAdds → TheoryAdds → Sorts → Theories
first_of_three first second third sorts facts line =
    or_other (first sorts facts line)
    (or_other (second sorts facts line) (third sorts facts line))

-- the number of the first bad line in preorder, none where each is good and each branch closes; the
-- lines are numbered from n
abbrev pub first_bad : Theories → Sorts → List BranchFact → ℕ → Certificate → Option ℕ
first_bad added sorts facts n (Next line c) =
    in_one_way (ways_with sorts facts (added facts line) line) n
    (λ (way : List BranchFact). first_bad added sorts (facts ++ way) (suc n) c)
first_bad added sorts facts n (Closed line) =
    in_no_way (ways_with sorts facts (added facts line) line) n
first_bad added sorts facts n (Split line c d) =
    in_two_ways (ways_with sorts facts (added facts line) line) n
    (λ (way other : List BranchFact).
    or_other (first_bad added sorts (facts ++ way) (suc n) c)
    (first_bad added sorts (facts ++ other) (suc n + lines_in c) d))

-- why a certificate is refused
pub data Refused : Type 0 where
  Bad : ℕ → Refused
  TooManySplits : Refused

-- a first bad line as a refusal
abbrev pub bad_line : Option ℕ → Option Refused
bad_line None = None
bad_line (Some n) = Some (Bad n)

-- why a certificate is refused on a branch, none where it closes the branch; more than 1,000 splits
-- above a line are refused first
abbrev pub refused : Theories → Sorts → List BranchFact → Certificate → Option Refused
refused added sorts facts c =
    if nat_lt 1000 (splits_above c) then Some TooManySplits
    else bad_line (first_bad added sorts facts 0 c)

-- a certificate closes a branch
abbrev pub Closes : Sorts → List BranchFact → Certificate → Type 0
Closes sorts facts c = refused (adds sorts) sorts facts c ≡ None
