-- The marks are those over the table before the node was made.
use Rattle.sm_plan.proofs.TablesWiden.{widens_twice, forms_ready}
use Rattle.sm_houdini.proofs.ClosingLemmas.{judged_over}
use Rattle.sm_houdini.proofs.closing.judged.Goals as goal

pub judged_at-requires-clause-facts : goal.judged_at-requires-clause-facts
judged_at-requires-clause-facts c =
    forms_ready c.args.table.now c.node_of.new.table c.in_ok-node.ensures.widens c.args.due.now.facts.list.items c.requires.facts

pub judged_at-requires-clause-goals : goal.judged_at-requires-clause-goals
judged_at-requires-clause-goals c =
    forms_ready c.args.table.now c.node_of.new.table c.in_ok-node.ensures.widens c.args.due.now.targets.list.items c.requires.goals

pub returns-clause-judged : goal.returns-clause-judged
returns-clause-judged c =
    judged_over c.args.table.now c.node_of.new.table c.in_ok-node.ensures.widens c.args.reach c.args.due.now c.requires.facts
    c.requires.goals 0 c.args.marks.now c.judged_at.result c.judged_at.ensures.judged

pub returns-clause-widens : goal.returns-clause-widens
returns-clause-widens c =
    widens_twice c.args.table.now c.node_of.new.table c.judged_at.new.table c.in_ok-node.ensures.widens c.judged_at.ensures.widens
