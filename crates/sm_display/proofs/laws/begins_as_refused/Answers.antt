use Rattle.sm_display.proofs.Begins.{begins_refused}
use Rattle.sm_display.proofs.laws.begins_as_refused.Goals as goal

pub returns : goal.returns
returns c = begins_refused
