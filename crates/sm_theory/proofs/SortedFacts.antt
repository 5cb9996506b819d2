-- Facts of formulas that keep to sorts.
use Rattle.sm_theory.proofs.Imports.{List, [], ◌∷◌, Sorts, Assertion, AreFormsSorted, as_facts, AreFactsSorted}

-- formulas as facts are sorted
pub as_facts_sorted : (sorts : Sorts) (fs : List Assertion) → AreFormsSorted sorts fs → AreFactsSorted sorts (as_facts fs)
as_facts_sorted sorts [] all = tt
as_facts_sorted sorts (f ∷ fs) all = (all.0, as_facts_sorted sorts fs all.1)
