-- What it ends with is the same over the table before the node was made.
use Rattle.sm_plan.proofs.TablesWiden.{widens_twice, forms_ready}
use Rattle.sm_houdini.proofs.EndLemmas.{run_over}
use Rattle.sm_houdini.proofs.ending.end_run.Goals as goal

pub end_run_at-requires-clause-facts : goal.end_run_at-requires-clause-facts
end_run_at-requires-clause-facts c =
    forms_ready c.args.table.now c.node_of.new.table c.in_ok-shared.ensures.widens c.args.due.now.facts.list.items c.requires.facts

pub end_run_at-requires-clause-goals : goal.end_run_at-requires-clause-goals
end_run_at-requires-clause-goals c =
    forms_ready c.args.table.now c.node_of.new.table c.in_ok-shared.ensures.widens c.args.run.now c.requires.goals

pub returns-clause-ends : goal.returns-clause-ends
returns-clause-ends c = λ goals before.
    run_over c.args.table.now c.node_of.new.table c.end_run_at.new.table c.in_ok-shared.ensures.widens c.args.reach c.args.first
    c.args.due.now c.args.run.now c.requires.facts c.requires.goals goals c.args.trees.now.items c.end_run_at.new.trees.items
    c.end_run_at.result (c.end_run_at.ensures.ends goals) before

pub returns-clause-widens : goal.returns-clause-widens
returns-clause-widens c =
    widens_twice c.args.table.now c.node_of.new.table c.end_run_at.new.table c.in_ok-shared.ensures.widens c.end_run_at.ensures.widens
