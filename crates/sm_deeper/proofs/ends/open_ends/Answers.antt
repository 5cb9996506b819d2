use Rattle.sm_deeper.proofs.Imports.{trees_in, sorts_in, forms_ready, facts_at}
use Rattle.sm_deeper.proofs.ends.open_ends.Goals as goal

pub put_open-requires-clause-facts : goal.put_open-requires-clause-facts
put_open-requires-clause-facts c =
    let v = c.args.table.now in
    let w = c.loop-at.table in
    let due = c.index-dues-at.result in
    forms_ready v w c.loop-at.invariant due.facts.list.items
    (facts_at (sorts_in v) (trees_in v) c.args.dues.now c.loop-at.at due c.requires c.loop-at-test.true c.index-dues-at.is).0

pub put_open-requires-clause-goals : goal.put_open-requires-clause-goals
put_open-requires-clause-goals c =
    let v = c.args.table.now in
    let w = c.loop-at.table in
    let due = c.index-dues-at.result in
    forms_ready v w c.loop-at.invariant due.targets.list.items
    (facts_at (sorts_in v) (trees_in v) c.args.dues.now c.loop-at.at due c.requires c.loop-at-test.true c.index-dues-at.is).1
