-- The terms of the formula are those of the other table under their numbers.
use Rattle.sm_list.proofs.Imports.{length, sym, ap, ◌∙◌, subst, numbered, assertion_in, IsFormulaWithin, number_under}
use Rattle.sm_list.proofs.RenumberLemmas.{terms_stand, formula_stands, formula_same, formula_there}
use Rattle.sm_list.proofs.renumber.renumbered.Goals as goal

pub returns-clause-same : goal.returns-clause-same
returns-clause-same c = λ sorts trees others are within.
    let new = number_under c.args.numbers.now in
    let f = numbered c.args.f.now in
    let stands = formula_stands trees others new (terms_stand trees others c.args.numbers.now are) f within in
    ap (assertion_in sorts others) c.in_ok-g.ensures ∙ formula_same trees others new sorts f stands

pub returns-clause-within : goal.returns-clause-within
returns-clause-within c = λ trees others are within.
    let new = number_under c.args.numbers.now in
    let f = numbered c.args.f.now in
    let stands = formula_stands trees others new (terms_stand trees others c.args.numbers.now are) f within in
    subst (IsFormulaWithin (length others)) (sym c.in_ok-g.ensures) (formula_there trees others new f stands)
