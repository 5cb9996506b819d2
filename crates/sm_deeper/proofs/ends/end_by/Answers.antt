-- What is asked stays ready while it is walked.
use Rattle.sm_expand.proofs.PlansWiden.{dues_ready}
use Rattle.sm_deeper.proofs.ends.end_by.Goals as goal

pub are_closed-requires-after_bounds : goal.are_closed-requires-after_bounds
are_closed-requires-after_bounds g c κs within = dues_ready c.args.table.now c.dead_ends.new.table c.in_ok-open.ensures c.args.dues.now c.requires
