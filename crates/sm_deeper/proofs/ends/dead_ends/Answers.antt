-- What is asked stays ready while jobs make certificates.
use Rattle.sm_expand.proofs.PlansWiden.{dues_ready}
use Rattle.sm_deeper.proofs.Widening.{widens_then}
use Rattle.sm_deeper.proofs.ends.dead_ends.Goals as goal

pub open_ends-requires : goal.open_ends-requires
open_ends-requires g c = dues_ready c.args.table.now c.end_ahead.new.table c.in_ok-end_ahead.ensures c.args.dues.now c.requires

pub returns : goal.returns
returns g c =
    widens_then c.args.table.now c.end_ahead.new.table c.open_ends.new.table c.open_ends.result c.in_ok-end_ahead.ensures c.open_ends.ensures
