use Rattle.sm_replay.specs.Runs.{end_in}
use Rattle.sm_replay.proofs.FirstBreakSound.{breaks_number}
use Rattle.sm_replay.proofs.first_break.break_at_number.Goals as goal

pub returns-in-Some-clause-some : goal.returns-in-Some-clause-some
returns-in-Some-clause-some c = breaks_number (end_in c.args.ends.now) c.args.x.0 c.in-Some.clause c.in-Some.ensures.broken
