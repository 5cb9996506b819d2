-- Over the table before the node was made.
use Rattle.sm_plan.proofs.TablesWiden.{forms_ready}
use Rattle.sm_deeper.proofs.Widening.{widens_then}
use Rattle.sm_deeper.proofs.ahead.ends_of.Goals as goal

pub ends_at-requires-clause-facts : goal.ends_at-requires-clause-facts
ends_at-requires-clause-facts c =
    forms_ready c.args.table.now c.boxed_node.new.table c.in_ok-node.ensures.widens c.args.due.now.facts.list.items c.requires.facts

pub ends_at-requires-clause-goals : goal.ends_at-requires-clause-goals
ends_at-requires-clause-goals c =
    forms_ready c.args.table.now c.boxed_node.new.table c.in_ok-node.ensures.widens c.args.due.now.targets.list.items c.requires.goals

pub returns : goal.returns
returns c =
    widens_then c.args.table.now c.boxed_node.new.table c.ends_at.new.table c.ends_at.result c.in_ok-node.ensures.widens c.ends_at.ensures
