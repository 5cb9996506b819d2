-- What is asked stays ready while jobs make certificates.
use Rattle.sm_expand.proofs.PlansWiden.{dues_ready}
use Rattle.sm_deeper.proofs.Widening.{widens_then}
use Rattle.sm_deeper.proofs.ends.are_closed.Goals as goal

pub are_ended-requires : goal.are_ended-requires
are_ended-requires g c = dues_ready c.args.table.now c.end_ahead.new.table c.in_ok-end_ahead.ensures c.args.dues.now c.requires

pub returns : goal.returns
returns g c =
    widens_then c.args.table.now c.end_ahead.new.table c.are_ended.new.table c.are_ended.result c.in_ok-end_ahead.ensures c.are_ended.ensures
