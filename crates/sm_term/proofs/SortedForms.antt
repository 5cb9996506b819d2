-- Formulas that keep to sorts, negated and joined.
use Rattle.sm_term.proofs.Imports.{Sorts, Assertion, negate, IsFormSorted, AreFormsSorted, List, [], ◌∷◌, ◌++◌}
use Rattle.sm_term.specs.Assertions.{Yes, No, Eq, Ne, Le, Lt, And, Or}

-- a formula's contrary
pub negate_sorted : (sorts : Sorts) (f : Assertion) → IsFormSorted sorts f → IsFormSorted sorts (negate f)
negate_sorted sorts Yes b = tt
negate_sorted sorts No b = tt
negate_sorted sorts (Eq sort t u) b = b
negate_sorted sorts (Ne sort t u) b = b
negate_sorted sorts (Le t u) b = (b.1, b.0)
negate_sorted sorts (Lt t u) b = (b.1, b.0)
negate_sorted sorts (And p q) b = (negate_sorted sorts p b.0, negate_sorted sorts q b.1)
negate_sorted sorts (Or p q) b = (negate_sorted sorts p b.0, negate_sorted sorts q b.1)

-- formulas one after the other
pub forms_append : (sorts : Sorts) (fs gs : List Assertion) → AreFormsSorted sorts fs → AreFormsSorted sorts gs →
    AreFormsSorted sorts (fs ++ gs)
forms_append sorts [] gs b d = d
forms_append sorts (f ∷ fs) gs b d = (b.0, forms_append sorts fs gs b.1 d)
