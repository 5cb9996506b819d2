-- Cited by public clauses: laws of what code needs and assigns, each for all code.
use Rattle.std.specs.Prelude.{◌≡◌, ◌↔◌, ℕ, IsTrue, Option, Some, None, is_some}
use Rattle.std.specs.List.Sorted.{IsStrictlyIncreasing}
use Rattle.sm_syntax.specs.Assigns.{assigns}
use Rattle.sm_syntax.specs.text.Conditions.{is_in}
use Rattle.sm_syntax.specs.claim.Syntax.{Code}
use Rattle.sm_syntax.specs.claim.Stores.{Value, Store}
use Rattle.sm_syntax.specs.claim.Meaning.{run}
use Rattle.sm_syntax.specs.SameAs.{SameAs}
use Rattle.sm_syntax.specs.text.Sorts.{Sorts, IsWellSorted}
use Rattle.sm_syntax.specs.declared.tree.Sort.{Sort}
use Rattle.sm_deps.specs.Needs.{Needs}
use Rattle.sm_deps.specs.Inputs.{inputs}

-- both runs end or neither does, and where they end, the ends are alike
abbrev pub EndAlike : (Store → Store → Type 0) → Option Store → Option Store → Type 0
EndAlike Alike None None = Unit {0}
EndAlike Alike None (Some t) = ⊥
EndAlike Alike (Some s) None = ⊥
EndAlike Alike (Some s) (Some t) = Alike s t

-- two values are the same as what has a sort; nothing is asked where there is none
abbrev pub SameIfSorted : Option Sort → Value → Value → Type 0
SameIfSorted None u v = Unit {0}
SameIfSorted (Some sort) u v = SameAs sort u v

-- the list of inputs rises, and has exactly the names that are needed for the wanted one
abbrev pub InputsAreNeeded : Type 0
InputsAreNeeded =
    (c : Code) (w : ℕ) →
    IsStrictlyIncreasing (inputs c w)
    × ((x : ℕ) → IsTrue (is_in (inputs c w) x) ↔ Needs c (λ (y : ℕ). y ≡ w) x)

-- under every bound on turns, runs from stores that agree on the inputs for a name end alike and
-- agree on it there
abbrev pub InputsDecide : Type 0
InputsDecide =
    (n : ℕ) (c : Code) (w : ℕ) (s t : Store) →
    ((x : ℕ) → IsTrue (is_in (inputs c w) x) → s x ≡ t x) →
    EndAlike (λ (u v : Store). u w ≡ v w) (run n c s) (run n c t)

-- runs of well-sorted code from stores that agree by sort on the inputs for a name end alike
abbrev pub InputsDecideBySort : Type 0
InputsDecideBySort =
    (sorts : Sorts) (n : ℕ) (c : Code) (w : ℕ) (s t : Store) →
    IsWellSorted sorts c →
    ((x : ℕ) → IsTrue (is_in (inputs c w) x) → SameIfSorted (sorts x) (s x) (t x)) →
    EndAlike (λ (u v : Store). SameIfSorted (sorts w) (u w) (v w)) (run n c s) (run n c t)

-- the inputs of well-sorted code for a declared name are declared
abbrev pub InputsAreDeclared : Type 0
InputsAreDeclared =
    (sorts : Sorts) (c : Code) (w x : ℕ) →
    IsWellSorted sorts c →
    IsTrue (is_some (sorts w)) →
    IsTrue (is_in (inputs c w) x) →
    IsTrue (is_some (sorts x))

-- what well-sorted code assigns is declared
abbrev pub AssignedAreDeclared : Type 0
AssignedAreDeclared =
    (sorts : Sorts) (c : Code) (x : ℕ) →
    IsWellSorted sorts c →
    IsTrue (assigns c x) →
    IsTrue (is_some (sorts x))
