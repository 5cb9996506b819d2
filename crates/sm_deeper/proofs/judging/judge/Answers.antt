-- What the node asks is ready.
use Rattle.sm_deeper.proofs.Imports.{trees_in, sorts_in, facts_at}
use Rattle.sm_deeper.proofs.judging.judge.Goals as goal

pub judged-requires-clause-facts : goal.judged-requires-clause-facts
judged-requires-clause-facts c =
    (facts_at (sorts_in c.args.table.now) (trees_in c.args.table.now) c.args.round.now.dues.now c.args.place c.in-Some.due.now c.requires
    c.in-Some.ensures.lookup.3.0 (c.in-Some.ensures.lookup.3.1 c.in-Some.due.now)).0

pub judged-requires-clause-goals : goal.judged-requires-clause-goals
judged-requires-clause-goals c =
    (facts_at (sorts_in c.args.table.now) (trees_in c.args.table.now) c.args.round.now.dues.now c.args.place c.in-Some.due.now c.requires
    c.in-Some.ensures.lookup.3.0 (c.in-Some.ensures.lookup.3.1 c.in-Some.due.now)).1
