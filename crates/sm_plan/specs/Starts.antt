-- The start of a proof. Cited by public clauses: how names are numbered. The rest is private: the
-- target over numbers of terms.
use Rattle.std.specs.Prelude.{◌≡◌, ℕ, List, [], ◌∷◌, map, length}
use Rattle.std.specs.List.{range_with_len}
use Rattle.sm_syntax.specs.claim.ConflictFree.{Copy, O, A, B, M}
use Rattle.sm_syntax.specs.text.Sorts.{Sorts}
use Rattle.sm_syntax.specs.declared.tree.Sort.{Sort}
use Rattle.sm_term.specs.Formulas.{NumberedFormula, Eq, Ne, Or, IsFormulaWithin}
use Rattle.sm_term.specs.Sorted.{sort_named}

-- the three goals of an output, over the numbers of its places
abbrev pub goals_over : (Copy → ℕ) → List NumberedFormula
goals_over at =
    Or (Eq (at O) (at A)) (Eq (at M) (at A))
    ∷ Or (Eq (at O) (at B)) (Eq (at M) (at B))
    ∷ Or (Ne (at O) (at A)) (Or (Ne (at A) (at B)) (Eq (at M) (at O)))
    ∷ []

-- names with their sorts
abbrev pub with_sorts : Sorts → List ℕ → List (ℕ × Sort)
with_sorts sorts names = map (λ (x : ℕ). (x, sort_named sorts x)) names

-- the terms of formulas are in a table of `count` terms
abbrev pub AreAllWithin : ℕ → List NumberedFormula → Type 0
AreAllWithin count [] = Unit {0}
AreAllWithin count (f ∷ fs) = IsFormulaWithin count f × AreAllWithin count fs

-- names are declared by number, from 0 on
abbrev pub AreNumbered : List (ℕ × Sort) → Type 0
AreNumbered declared =
    map (λ (d : ℕ × Sort). d.0) declared ≡ range_with_len 0 (length declared)
