-- The node's row, its lines, and what it opens.
use Rattle.sm_write.proofs.Imports.{trees_in, sorts_in, widens_same, numbered_at}
use Rattle.sm_expand.proofs.NodeOpened.{head_ready}
use Rattle.sm_write.proofs.plans.write_opening.Goals as goal

pub returns-in-None-clause-widens : goal.returns-in-None-clause-widens
returns-in-None-clause-widens c = widens_same c.args.table.now

pub write_head-requires-clause-node : goal.write_head-requires-clause-node
write_head-requires-clause-node c =
    let sorts = sorts_in c.args.table.now in
    let trees = trees_in c.args.table.now in
    c.in-Some.ensures.ready sorts trees (head_ready sorts trees (numbered_at c.args.next.cursor) c.requires.plan)

pub returns-in_err-write_head-clause-widens : goal.returns-in_err-write_head-clause-widens
returns-in_err-write_head-clause-widens c = widens_same c.args.table.now

pub returns-in-Ok-clause-written : goal.returns-in-Ok-clause-written
returns-in-Ok-clause-written c = record {
  opens = c.in-Ok.ensures.ok;
  row = c.in-Some.row;
  is = c.in-Some.ensures.row (sorts_in c.args.table.now) (trees_in c.args.table.now);
  writes = c.in_ok-write_head.ensures;
}
