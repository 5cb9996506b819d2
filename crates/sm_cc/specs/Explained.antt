-- Cited by public clauses: lines that explain on a branch why two terms are equal.
use Rattle.std.specs.Prelude.{◌≡◌, ℕ, slice_get, Option, Some, List, [], ◌∷◌, ◌++◌, length}
use Rattle.sm_term.specs.declared.term.TermId.{TermId}
use Rattle.sm_theory.specs.declared.line.CertLine.{CertLine}
use Rattle.sm_theory.specs.declared.line.CertLine.TheVariants as line
use Rattle.sm_syntax.specs.text.Sorts.{Sorts}
use Rattle.sm_term.specs.Assertions.{Assertion}
use Rattle.sm_theory.specs.Facts.{BranchFact, Formal}
use Rattle.sm_theory.specs.Lines.{CertificateLine, followed}
use Rattle.sm_theory.specs.Ways.{adds}

-- the facts that lines add to a branch, one after the other; none where one adds none
abbrev pub added_by : Sorts → List BranchFact → List CertificateLine → Option (List BranchFact)
added_by sorts facts [] = Some []
added_by sorts facts (line ∷ lines) =
    followed (adds sorts facts line) (λ (k : BranchFact).
    followed (added_by sorts (facts ++ k ∷ []) lines) (λ (ks : List BranchFact). Some (k ∷ ks)))

-- formulas stand on a branch, each under its number
abbrev pub StandAt : List BranchFact → List ℕ → List Assertion → Type 0
StandAt facts [] [] = Unit {0}
StandAt facts (n ∷ ns) (f ∷ fs) = (slice_get facts n ≡ Some (Formal f)) × StandAt facts ns fs
StandAt facts ns fs = ⊥

-- lines add facts to each branch of so many facts on which the given ones stand; the last is told
abbrev pub Explain :
    Sorts → List ℕ → List Assertion → ℕ → List CertificateLine → Assertion → Type 0
Explain sorts numbers given start lines goal =
    (facts : List BranchFact) → length facts ≡ start → StandAt facts numbers given →
    (before : List BranchFact) × (added_by sorts facts lines ≡ Some (before ++ Formal goal ∷ []))

-- a term is in a list
abbrev pub IsListed : List TermId → TermId → Type 0
IsListed terms t = (n : ℕ) × (slice_get terms n ≡ Some t)

-- a line adds an equation or its contrary, and the terms that it names are in a list
abbrev pub IsLineOf : List TermId → CertLine → Type 0
IsLineOf terms (line.Refl t) = IsListed terms t
IsLineOf terms (line.Sym n) = Unit {0}
IsLineOf terms (line.Trans m n) = Unit {0}
IsLineOf terms (line.Subst m n) = Unit {0}
IsLineOf terms (line.Cong t u ns) = IsListed terms t × IsListed terms u
IsLineOf terms (line.Same t u) = IsListed terms t × IsListed terms u
IsLineOf terms (line.Apart t u) = IsListed terms t × IsListed terms u
IsLineOf terms (line.Hit t n) = IsListed terms t
IsLineOf terms (line.Miss t u n) = IsListed terms t × IsListed terms u
IsLineOf terms other = ⊥

-- each line adds an equation or its contrary, and the terms that it names are in a list
abbrev pub AreLinesOf : List TermId → List CertLine → Type 0
AreLinesOf terms [] = Unit {0}
AreLinesOf terms (l ∷ ls) = IsLineOf terms l × AreLinesOf terms ls
