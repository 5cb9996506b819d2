-- The terms of the formulas, and behind them what is read before.
use Rattle.sm_list.proofs.Imports.{◌≡◌, ℕ, true, false, List, length, sym, ap, subst, ◌∙◌, trees_in, sorts_in, with_formulas, all_numbered, assertions_in, with_those_before, trees_at, AreBelow, IsClosed}
use Rattle.sm_list.proofs.terms.list_terms.Goals as goal

pub list_formulas-requires-clause-listed : goal.list_formulas-requires-clause-listed
list_formulas-requires-clause-listed c = subst (AreBelow (length (trees_in c.args.table.now))) (sym c.requires.none) tt

pub list_formulas-requires-clause-closed : goal.list_formulas-requires-clause-closed
list_formulas-requires-clause-closed c =
    subst (λ (ns : List ℕ). IsClosed (trees_at (trees_in c.args.table.now) ns)) (sym c.requires.none) (λ t among. let never : false ≡ true = among in absurd cc)

pub returns-clause-terms : goal.returns-clause-terms
returns-clause-terms c =
    let trees = trees_in c.args.table.now in
    let all = assertions_in (sorts_in c.args.table.now) trees (all_numbered c.args.facts.now) in
    c.in_ok-list_reads.ensures.terms
    ∙ ap with_those_before
    (c.in_ok-list_formulas.ensures.terms
    ∙ ap (λ (ns : List ℕ). with_formulas all (trees_at trees ns)) c.requires.none)
