-- Cited by public clauses: laws of terms and formulas, each for all structures.
use Rattle.std.specs.Prelude.{◌≡◌, ◌↔◌, ℕ, IsTrue, List, [], ◌∷◌, ◌++◌}
use Rattle.sm_syntax.specs.claim.Syntax.{Expression, Condition}
use Rattle.sm_syntax.specs.claim.Stores.{Store}
use Rattle.sm_syntax.specs.claim.Meaning.{value_of, truth_of}
use Rattle.sm_syntax.specs.claim.ConflictFree.{Copy}
use Rattle.sm_term.specs.Structures.{Structure, meaning, with_slots, with_havoc}
use Rattle.sm_term.specs.Assertions.{Assertion, Holds, AllHold, IsValid, IsRefuted, negate, conj}
use Rattle.sm_term.specs.Symbolic.{SymbolicStore, store_meant, term_of, form_of}
use Rattle.sm_term.specs.Slots.{at_stores}
use Rattle.sm_term.specs.Fresh.{IsFormBelow}
use Rattle.sm_syntax.specs.text.Sorts.{Sorts}
use Rattle.sm_term.specs.Terms.{Tree}
use Rattle.sm_term.specs.Formulas.{NumberedFormula, contrary, assertion_in}

-- the term of an expression means the expression's value in the store that the symbolic store means
abbrev pub TermMeansValue : Type 0
TermMeansValue =
    (m : Structure) (e : Expression) (s : SymbolicStore) →
    meaning m (term_of e s) ≡ value_of e (store_meant m s)

-- the formula of a condition holds exactly where the condition is true in that store
abbrev pub FormMeansTruth : Type 0
FormMeansTruth =
    (m : Structure) (b : Condition) (s : SymbolicStore) →
    Holds m (form_of b s) ↔ IsTrue (truth_of b (store_meant m s))

-- negate says the contrary
abbrev pub NegateIsContrary : Type 0
NegateIsContrary = (m : Structure) (f : Assertion) → Holds m (negate f) ↔ (Holds m f → ⊥)

-- a formula that can't fail holds
abbrev pub HoldsIsStable : Type 0
HoldsIsStable = (m : Structure) (f : Assertion) → ((Holds m f → ⊥) → ⊥) → Holds m f

-- a formula holds exactly where its parts do
abbrev pub ConjHolds : Type 0
ConjHolds = (m : Structure) (f : Assertion) → Holds m f ↔ AllHold m (conj f)

-- where no structure makes the facts and the negated goal hold, the goal holds where the facts do
abbrev pub RefutedIsValid : Type 0
RefutedIsValid =
    (facts : List Assertion) (goal : Assertion) →
    IsRefuted (facts ++ negate goal ∷ []) →
    IsValid facts goal

-- where facts and a negated goal don't hold together in a structure, the goal holds if the facts do
abbrev pub RefutedHere : Type 0
RefutedHere =
    (m : Structure) (facts : List Assertion) (goal : Assertion) →
    (AllHold m (facts ++ negate goal ∷ []) → ⊥) →
    AllHold m facts →
    Holds m goal

-- a formula at stores holds exactly where it holds with their values at the slots
abbrev pub AtStoresHolds : Type 0
AtStoresHolds =
    (m : Structure) (s : Copy → SymbolicStore) (f : Assertion) →
    Holds m (at_stores s f) ↔ Holds (with_slots m (λ (c : Copy). store_meant m (s c))) f

-- what a formula says doesn't change with the new values of a node that it doesn't name
abbrev pub FreshHolds : Type 0
FreshHolds =
    (m : Structure) (k : ℕ) (new : Copy → Store) (f : Assertion) →
    IsFormBelow k f →
    Holds (with_havoc m k new) f ↔ Holds m f

-- the contrary of a formula over numbers is the negation of the formula over trees
abbrev pub ContraryIsNegated : Type 0
ContraryIsNegated =
    (sorts : Sorts) (trees : List Tree) (f : NumberedFormula) →
    assertion_in sorts trees (contrary f) ≡ negate (assertion_in sorts trees f)
