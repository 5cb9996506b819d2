use Rattle.sm_deeper.proofs.Imports.{trees_in, sorts_in, forms_ready, facts_at}
use Rattle.sm_deeper.proofs.ends.are_ended.Goals as goal

pub is_ended-requires-clause-facts : goal.is_ended-requires-clause-facts
is_ended-requires-clause-facts c =
    let v = c.args.table.now in
    let w = c.loop-at.table in
    let due = c.index-dues-at.result in
    forms_ready v w c.loop-at.invariant due.facts.list.items
    (facts_at (sorts_in v) (trees_in v) c.args.dues.now c.loop-at.at due c.requires c.loop-at-test.true c.index-dues-at.is).0

pub is_ended-requires-clause-goals : goal.is_ended-requires-clause-goals
is_ended-requires-clause-goals c =
    let v = c.args.table.now in
    let w = c.loop-at.table in
    let due = c.index-dues-at.result in
    forms_ready v w c.loop-at.invariant due.targets.list.items
    (facts_at (sorts_in v) (trees_in v) c.args.dues.now c.loop-at.at due c.requires c.loop-at-test.true c.index-dues-at.is).1
