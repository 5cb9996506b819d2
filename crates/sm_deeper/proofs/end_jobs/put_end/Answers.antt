-- What the node asks is ready.
use Rattle.sm_deeper.proofs.Imports.{trees_in, sorts_in, facts_at}
use Rattle.sm_deeper.proofs.end_jobs.put_end.Goals as goal

pub put_trees-requires-clause-facts : goal.put_trees-requires-clause-facts
put_trees-requires-clause-facts c =
    (facts_at (sorts_in c.args.table.now) (trees_in c.args.table.now) c.args.dues.now c.args.place c.in-Some.due.now c.requires
    c.in-Some.ensures.lookup.3.0 (c.in-Some.ensures.lookup.3.1 c.in-Some.due.now)).0

pub put_trees-requires-clause-goals : goal.put_trees-requires-clause-goals
put_trees-requires-clause-goals c =
    (facts_at (sorts_in c.args.table.now) (trees_in c.args.table.now) c.args.dues.now c.args.place c.in-Some.due.now c.requires
    c.in-Some.ensures.lookup.3.0 (c.in-Some.ensures.lookup.3.1 c.in-Some.due.now)).1
