use Rattle.sm_plan.proofs.TablesWiden.{widens_twice, forms_ready}
use Rattle.sm_deeper.proofs.judging.judged_at.Goals as goal

pub stays-requires-clause-facts : goal.stays-requires-clause-facts
stays-requires-clause-facts c =
    forms_ready c.args.table.now c.loop-at.table c.loop-at.invariant.widens c.args.due.now.facts.list.items c.requires.facts

pub stays-requires-clause-goals : goal.stays-requires-clause-goals
stays-requires-clause-goals c =
    forms_ready c.args.table.now c.loop-at.table c.loop-at.invariant.widens c.args.due.now.targets.list.items c.requires.goals

pub loop-at-preserved : goal.loop-at-preserved
loop-at-preserved c = record {
  widens = widens_twice c.args.table.now c.loop-at.table c.stays.new.table c.loop-at.invariant.widens c.in_ok-holds.ensures.widens;
  node = c.in_ok-holds.ensures.node;
}
