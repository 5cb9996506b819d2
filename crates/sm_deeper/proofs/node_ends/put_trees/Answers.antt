-- Over the table before the node was made.
use Rattle.sm_deeper.proofs.Imports.{forms_ready, goals_ready}
use Rattle.sm_deeper.proofs.Widening.{widens_then}
use Rattle.sm_deeper.proofs.node_ends.put_trees.Goals as goal

pub put_trees_at-requires-clause-facts : goal.put_trees_at-requires-clause-facts
put_trees_at-requires-clause-facts c =
    forms_ready c.args.table.now c.boxed_node.new.table c.in_ok-node.ensures.widens c.args.due.now.facts.list.items c.requires.facts

pub put_trees_at-requires-clause-goals : goal.put_trees_at-requires-clause-goals
put_trees_at-requires-clause-goals c =
    goals_ready c.boxed_node.new.table c.args.due.now.targets.list.items c.as_slice-goals.result.now c.as_slice-goals.ensures.value
    (forms_ready c.args.table.now c.boxed_node.new.table c.in_ok-node.ensures.widens c.args.due.now.targets.list.items c.requires.goals)

pub returns : goal.returns
returns c =
    widens_then c.args.table.now c.boxed_node.new.table c.put_trees_at.new.table c.put_trees_at.result c.in_ok-node.ensures.widens
    c.put_trees_at.ensures
