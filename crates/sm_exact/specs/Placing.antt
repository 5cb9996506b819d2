-- Private: forms over the places that their atoms have among numbers, and the formulas of a branch.
use Rattle.std.specs.Prelude.{◌≡◌, ℕ, ℤ, pos, Option, Some, None, slice_get, List, [], ◌∷◌}
use Rattle.sm_syntax.specs.text.Sorts.{Sorts}
use Rattle.sm_num.specs.Forms.{Linear, coefficient, IsKept}
use Rattle.sm_num.specs.FormLaws.{same_atom}
use Rattle.sm_term.specs.Terms.{Tree}
use Rattle.sm_term.specs.Assertions.{Assertion}
use Rattle.sm_term.specs.Formulas.{numbered, assertion_in}
use Rattle.sm_theory.specs.declared.fact.Fact.{Fact}
use Rattle.sm_theory.specs.declared.fact.Fact.TheVariants as fact

-- the formulas of a branch, over the trees of a table
abbrev pub formulas_of : Sorts → List Tree → List Fact → List Assertion
formulas_of sorts trees [] = []
formulas_of sorts trees (fact.Form f ∷ fs) =
    assertion_in sorts trees (numbered f) ∷ formulas_of sorts trees fs
formulas_of sorts trees (fact.Lin f ∷ fs) = formulas_of sorts trees fs

-- a number has a place
abbrev pub IsAt : List ℕ → ℕ → ℕ → Type 0
IsAt numbers i k = slice_get numbers i ≡ Some k

-- a number has none
abbrev pub HasNoPlace : List ℕ → ℕ → Type 0
HasNoPlace numbers k = (i : ℕ) → IsAt numbers i k → ⊥

-- no number has two
abbrev pub HavePlaces : List ℕ → Type 0
HavePlaces numbers = (i j k : ℕ) → IsAt numbers i k → IsAt numbers j k → i ≡ j

-- parts have the coefficient of each number at its place, and no others
pub record ArePlaced (numbers : List ℕ) (ps qs : List (ℕ × ℤ)) : Type 0 where
  pub at :
      (i k : ℕ) → IsAt numbers i k → coefficient same_atom i qs ≡ coefficient same_atom k ps
  pub past : (i : ℕ) → slice_get numbers i ≡ None → coefficient same_atom i qs ≡ pos 0
  pub other : (k : ℕ) → HasNoPlace numbers k → coefficient same_atom k ps ≡ pos 0

-- a form over the places of the atoms of a form
pub record IsPlaced (numbers : List ℕ) (f h : Linear ℕ) : Type 0 where
  pub kept : IsKept h
  pub parts : ArePlaced numbers f.parts h.parts
  pub constant : h.constant ≡ f.constant
  pub kind : h.kind ≡ f.kind

-- an atom of a form has no place
abbrev pub LacksPlace : List ℕ → Linear ℕ → Type 0
LacksPlace numbers f =
    (k : ℕ) × HasNoPlace numbers k × (coefficient same_atom k f.parts ≡ pos 0 → ⊥)

-- the form over places, none where an atom has no place
abbrev pub IsPlacedIf : List ℕ → Linear ℕ → Option (Linear ℕ) → Type 0
IsPlacedIf numbers f None = LacksPlace numbers f
IsPlacedIf numbers f (Some h) = IsPlaced numbers f h

-- the forms over places of the linear facts, in order
abbrev pub ArePlacedForms : List ℕ → List Fact → List (Linear ℕ) → Type 0
ArePlacedForms numbers [] [] = Unit {0}
ArePlacedForms numbers [] (h ∷ hs) = ⊥
ArePlacedForms numbers (fact.Form f ∷ fs) hs = ArePlacedForms numbers fs hs
ArePlacedForms numbers (fact.Lin f ∷ fs) [] = ⊥
ArePlacedForms numbers (fact.Lin f ∷ fs) (h ∷ hs) =
    IsPlaced numbers f h × ArePlacedForms numbers fs hs

-- a linear fact has an atom without a place
abbrev pub SomeLacksPlace : List ℕ → List Fact → Type 0
SomeLacksPlace numbers fs =
    (n : ℕ) × (f : Linear ℕ) × (slice_get fs n ≡ Some (fact.Lin f)) × LacksPlace numbers f

-- a fact is a linear one that has such an atom
abbrev pub FactLacksPlace : List ℕ → Fact → Type 0
FactLacksPlace numbers (fact.Form f) = ⊥
FactLacksPlace numbers (fact.Lin f) = LacksPlace numbers f
