-- Ready formulas are what the walk asks for.
use Rattle.sm_deeper.proofs.Imports.{List, length, sym, subst, Formula, trees_in, sorts_in, forms_within, forms_sorted, node_over}
use Rattle.std.specs.Prelude.{IfSome}
use Rattle.sm_term.specs.Sorted.{AreFormsSorted}
use Rattle.sm_list.specs.Parts.{all_numbered, assertions_in, AreFormulasWithin}
use Rattle.sm_solve.specs.Sharing.{IsFactBase}
use Rattle.sm_deeper.proofs.closing.walked.Goals as goal

pub solve_at-requires-clause-facts : goal.solve_at-requires-clause-facts
solve_at-requires-clause-facts c =
    let sorts = sorts_in c.args.table.now in let trees = trees_in c.args.table.now in
    subst (λ (fs : List Formula). AreFormulasWithin (length trees) (all_numbered fs)) (sym c.deref.ensures.value)
    (forms_within sorts trees c.args.facts.now.list.items c.requires.facts)

pub solve_at-requires-clause-facts_sorted : goal.solve_at-requires-clause-facts_sorted
solve_at-requires-clause-facts_sorted c =
    let sorts = sorts_in c.args.table.now in let trees = trees_in c.args.table.now in
    subst (λ (fs : List Formula). AreFormsSorted sorts (assertions_in sorts trees (all_numbered fs))) (sym c.deref.ensures.value)
    (forms_sorted sorts trees c.args.facts.now.list.items c.requires.facts)

pub solve_at-requires-clause-node : goal.solve_at-requires-clause-node
solve_at-requires-clause-node c =
    let v = c.args.table.now in
    subst (λ (fs : List Formula). IfSome c.args.node.now (IsFactBase v (assertions_in (sorts_in v) (trees_in v) (all_numbered fs))))
    (sym c.deref.ensures.value) c.requires.node

pub returns-clause-node : goal.returns-clause-node
returns-clause-node c =
    node_over c.args.table.now c.solve_at.new.table c.in_ok-answer.ensures.grows c.args.facts.now.list.items c.requires.facts
    c.deref.result.now c.deref.ensures.value c.solve_at.new.node c.in_ok-answer.ensures.node
