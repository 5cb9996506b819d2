-- What is asked stays ready while the table widens.
use Rattle.sm_expand.proofs.PlansWiden.{dues_ready}
use Rattle.sm_deeper.proofs.ahead.walk_shares.Goals as goal

pub walk_share-requires : goal.walk_share-requires
walk_share-requires c = dues_ready c.args.table.now c.loop-share.table c.loop-share.invariant c.args.wave.now.dues.now c.requires
