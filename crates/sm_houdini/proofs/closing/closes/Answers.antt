use Rattle.sm_houdini.proofs.Imports.{List, length, sym, subst, ◌∙◌, ap, IfSome, Assertion, numbered, assertion_in, Formula, AreFormsSorted, trees_in, sorts_in, all_numbered, assertions_in, AreFormulasWithin, IsFactBase, walk, closing, forms_within, forms_same, forms_sorted}
use Rattle.sm_goals.proofs.NodesLemmas.{node_over}
use Rattle.sm_houdini.proofs.closing.closes.Goals as goal

pub solve_at-requires-clause-facts : goal.solve_at-requires-clause-facts
solve_at-requires-clause-facts c =
    let sorts = sorts_in c.args.table.now in let trees = trees_in c.args.table.now in
    subst (λ (fs : List Formula). AreFormulasWithin (length trees) (all_numbered fs)) (sym c.deref.ensures.value)
    (forms_within sorts trees c.args.facts.now.list.items c.requires.facts)

pub solve_at-requires-clause-facts_sorted : goal.solve_at-requires-clause-facts_sorted
solve_at-requires-clause-facts_sorted c =
    let sorts = sorts_in c.args.table.now in let trees = trees_in c.args.table.now in
    subst (λ (fs : List Formula). AreFormsSorted sorts (assertions_in sorts trees (all_numbered fs))) (sym c.deref.ensures.value)
    (forms_sorted sorts trees c.args.facts.now.list.items c.requires.facts)

pub solve_at-requires-clause-node : goal.solve_at-requires-clause-node
solve_at-requires-clause-node c =
    let v = c.args.table.now in
    subst (λ (fs : List Formula). IfSome c.args.node.now (IsFactBase v (assertions_in (sorts_in v) (trees_in v) (all_numbered fs))))
    (sym c.deref.ensures.value) c.requires.node

pub returns-clause-closes : goal.returns-clause-closes
returns-clause-closes c =
    let sorts = sorts_in c.args.table.now in let trees = trees_in c.args.table.now in
    let g = assertion_in sorts trees (numbered c.args.goal.now) in
    c.is_closed.ensures sorts (trees_in c.solve_at.new.table) (walk sorts c.args.reach (assertions_in sorts trees (all_numbered c.deref.result.now)) g)
    c.in_ok-answer.ensures.answer
    ∙ ap (λ (fs : List Formula). closing sorts c.args.reach (assertions_in sorts trees (all_numbered fs)) g) c.deref.ensures.value
    ∙ ap (λ (fs : List Assertion). closing sorts c.args.reach fs g) (forms_same sorts trees c.args.facts.now.list.items)

pub returns-clause-node : goal.returns-clause-node
returns-clause-node c =
    node_over c.args.table.now c.solve_at.new.table c.in_ok-answer.ensures.grows c.args.facts.now.list.items c.requires.facts
    c.deref.result.now c.deref.ensures.value c.solve_at.new.node c.in_ok-answer.ensures.node
