use Rattle.sm_display.proofs.Begins.{begins_replayed}
use Rattle.sm_display.proofs.laws.begins_as_replayed.Goals as goal

pub returns : goal.returns
returns c = begins_replayed
