-- What is asked stays ready while the table widens.
use Rattle.sm_expand.proofs.PlansWiden.{dues_ready}
use Rattle.sm_deeper.proofs.end_jobs.put_ends.Goals as goal

pub put_end-requires : goal.put_end-requires
put_end-requires c = dues_ready c.args.table.now c.loop-n.table c.loop-n.invariant c.args.ends.now.dues.now c.requires
