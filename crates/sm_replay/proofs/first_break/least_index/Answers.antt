-- The four arrays, one after the other.
use Rattle.sm_replay.specs.Runs.{end_in}
use Rattle.sm_replay.proofs.FirstBreakLeast.{least_of_four}
use Rattle.sm_replay.proofs.first_break.least_index.Goals as goal

pub returns-clause-least : goal.returns-clause-least
returns-clause-least c =
    least_of_four (end_in c.args.ends.now) c.args.a.0
    c.least_of-first.result c.least_of-second.result c.least_of-third.result c.least_of.result
    c.least_of-first.ensures.new c.least_of-second.ensures.new c.least_of-third.ensures.new c.least_of.ensures.new
    c.least_of-second.ensures.old c.least_of-third.ensures.old c.least_of.ensures.old
