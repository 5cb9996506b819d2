-- How many facts stand before the first goal.
use Rattle.sm_sided.proofs.Imports.{◌≡◌, Some, None, Ok, List, [], ◌∷◌, length, slice_get, refl, ap, sym, ◌∙◌, length-map, Sorts, Tree, Fault, dues_in, facts_before}
use Rattle.sm_term.specs.Formulas.{numbered, assertion_in}
use Rattle.sm_term.specs.declared.formula.Formula.{Formula}
use Rattle.sm_plan.specs.Plans as plain
use Rattle.std.specs.Prelude.{Result}
use Rattle.sm_expand.specs.declared.due.Due.{Due}

-- there is one
pub first_some : (sorts : Sorts) (trees : List Tree) (ds : List Due) (d : Due) → Some d ≡ slice_get ds 0 →
    length d.facts.list.items ≡ facts_before (dues_in sorts trees ds)
first_some sorts trees [] d e = absurd cc
first_some sorts trees (b ∷ ds) d e =
    let same : d ≡ b = cc in
    ap (λ (x : Due). length x.facts.list.items) same
    ∙ sym (length-map b.facts.list.items (λ (f : Formula). assertion_in sorts trees (numbered f)))

-- there is none
pub first_none : (sorts : Sorts) (trees : List Tree) (ds : List Due) → None ≡ slice_get ds 0 → 0 ≡ facts_before (dues_in sorts trees ds)
first_none sorts trees [] e = refl
first_none sorts trees (b ∷ ds) e = absurd cc

-- what is told twice is the same
pub told_twice : (r : Result (List plain.Due) Fault) (ds es : List plain.Due) → r ≡ Ok ds → r ≡ Ok es → ds ≡ es
told_twice r ds es d e = cc
