use Rattle.sm_plan.proofs.TablesWiden.{widens_twice, forms_ready}
use Rattle.sm_deeper.proofs.ahead.ends_at.Goals as goal

pub walk_at-requires-clause-facts : goal.walk_at-requires-clause-facts
walk_at-requires-clause-facts c =
    forms_ready c.args.table.now c.loop-at.table c.loop-at.invariant.widens c.args.due.now.facts.list.items c.requires.facts

pub walk_at-requires-clause-goals : goal.walk_at-requires-clause-goals
walk_at-requires-clause-goals c =
    forms_ready c.args.table.now c.loop-at.table c.loop-at.invariant.widens c.args.due.now.targets.list.items c.requires.goals

pub loop-at-preserved : goal.loop-at-preserved
loop-at-preserved c = record {
  widens = widens_twice c.args.table.now c.loop-at.table c.walk_at.new.table c.loop-at.invariant.widens c.in_ok-end.ensures.widens;
  node = c.in_ok-end.ensures.node;
}
