use Rattle.sm_deeper.proofs.Imports.{trees_in, sorts_in, forms_ready, form_ready}
use Rattle.sm_deeper.proofs.node_ends.put_trees_at.Goals as goal
use Rattle.sm_plan.proofs.FillingForms.{ready_at}

pub walked-requires-clause-facts : goal.walked-requires-clause-facts
walked-requires-clause-facts c =
    forms_ready c.args.table.now c.loop-goal.table c.loop-goal.invariant.widens c.args.facts.now.list.items c.requires.facts

pub walked-requires-clause-goal : goal.walked-requires-clause-goal
walked-requires-clause-goal c =
    let v = c.args.table.now in
    let f = c.goal-item.result in
    let i = c.loop-goal.goal-index in
    form_ready v c.loop-goal.table c.loop-goal.invariant.widens f
    (ready_at (sorts_in v) (trees_in v) c.args.goals.now i f c.requires.goals c.loop-goal-test.true c.goal-item.is)
