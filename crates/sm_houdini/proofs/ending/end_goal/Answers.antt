use Rattle.sm_houdini.proofs.Imports.{List, length, sym, subst, IfSome, Formula, AreFormsSorted, trees_in, sorts_in, widens_grown, all_numbered, assertions_in, AreFormulasWithin, IsFactBase, forms_within, forms_sorted}
use Rattle.sm_goals.proofs.NodesLemmas.{node_over}
use Rattle.sm_houdini.proofs.EndLemmas.{goal_ends, goal_stopped}
use Rattle.sm_houdini.proofs.ending.end_goal.Goals as goal

pub solve_at-requires-clause-facts : goal.solve_at-requires-clause-facts
solve_at-requires-clause-facts c =
    let sorts = sorts_in c.args.table.now in let trees = trees_in c.args.table.now in
    subst (λ (fs : List Formula). AreFormulasWithin (length trees) (all_numbered fs)) (sym c.deref.ensures.value)
    (forms_within sorts trees c.args.asking.now.due.now.facts.list.items c.requires.facts)

pub solve_at-requires-clause-facts_sorted : goal.solve_at-requires-clause-facts_sorted
solve_at-requires-clause-facts_sorted c =
    let sorts = sorts_in c.args.table.now in let trees = trees_in c.args.table.now in
    subst (λ (fs : List Formula). AreFormsSorted sorts (assertions_in sorts trees (all_numbered fs))) (sym c.deref.ensures.value)
    (forms_sorted sorts trees c.args.asking.now.due.now.facts.list.items c.requires.facts)

pub solve_at-requires-clause-node : goal.solve_at-requires-clause-node
solve_at-requires-clause-node c =
    let v = c.args.table.now in
    subst (λ (fs : List Formula). IfSome c.args.shared.now (IsFactBase v (assertions_in (sorts_in v) (trees_in v) (all_numbered fs))))
    (sym c.deref.ensures.value) c.requires.shared

pub returns-in_ok-put-in-Ok-clause-shared : goal.returns-in_ok-put-in-Ok-clause-shared
returns-in_ok-put-in-Ok-clause-shared c =
    node_over c.args.table.now c.solve_at.new.table c.in_ok-answer.ensures.grows c.args.asking.now.due.now.facts.list.items
    c.requires.facts c.deref.result.now c.deref.ensures.value c.solve_at.new.node c.in_ok-answer.ensures.node

pub returns-in-Err-clause-shared : goal.returns-in-Err-clause-shared
returns-in-Err-clause-shared c =
    node_over c.args.table.now c.solve_at.new.table c.in_ok-answer.ensures.grows c.args.asking.now.due.now.facts.list.items
    c.requires.facts c.deref.result.now c.deref.ensures.value c.solve_at.new.node c.in_ok-answer.ensures.node

pub returns-in_ok-put-in-Ok-clause-ends : goal.returns-in_ok-put-in-Ok-clause-ends
returns-in_ok-put-in-Ok-clause-ends c = λ goals before.
    let a = c.args.asking.now in
    goal_ends c.args.table.now c.solve_at.new.table (widens_grown c.args.table.now c.solve_at.new.table c.in_ok-answer.ensures.grows)
    a.reach a.due.now.node c.args.at a.due.now.facts.list.items c.args.goal.now c.in_ok-answer.answer c.in-Ok.tree c.deref.result.now
    c.deref.ensures.value c.requires.facts c.in_ok-answer.ensures.answer c.in_ok-answer.ensures.certifies c.in_ok-answer.ensures.names
    c.in-Ok.ensures (c.in_ok-put-in-Ok.ensures.short (trees_in c.solve_at.new.table)) goals c.args.trees.now.items c.put.new.trees.items
    c.in_ok-put-in-Ok.ensures.put before

pub returns-in-Err-clause-ends : goal.returns-in-Err-clause-ends
returns-in-Err-clause-ends c = λ goals before.
    let a = c.args.asking.now in
    goal_stopped c.args.table.now c.solve_at.new.table a.reach a.due.now.node c.args.at a.due.now.facts.list.items c.args.goal.now
    c.in_ok-answer.answer c.in-Err.stop c.deref.result.now c.deref.ensures.value c.in_ok-answer.ensures.answer c.in-Err.ensures
