-- What the node asks is ready.
use Rattle.sm_deeper.proofs.Imports.{trees_in, sorts_in, facts_at}
use Rattle.sm_deeper.proofs.ahead.walk_share.Goals as goal

pub ends_of-requires-clause-facts : goal.ends_of-requires-clause-facts
ends_of-requires-clause-facts c =
    (facts_at (sorts_in c.args.table.now) (trees_in c.args.table.now) c.args.wave.now.dues.now c.args.share.place c.in-Some.due.now c.requires
    c.in-Some.ensures.lookup.3.0 (c.in-Some.ensures.lookup.3.1 c.in-Some.due.now)).0

pub ends_of-requires-clause-goals : goal.ends_of-requires-clause-goals
ends_of-requires-clause-goals c =
    (facts_at (sorts_in c.args.table.now) (trees_in c.args.table.now) c.args.wave.now.dues.now c.args.share.place c.in-Some.due.now c.requires
    c.in-Some.ensures.lookup.3.0 (c.in-Some.ensures.lookup.3.1 c.in-Some.due.now)).1
