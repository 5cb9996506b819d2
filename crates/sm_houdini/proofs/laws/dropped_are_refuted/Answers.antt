use Rattle.sm_houdini.proofs.laws.dropped_are_refuted.Goals as goal
use Rattle.sm_houdini.proofs.DroppedLemmas.{dropped_refuted}

pub returns : goal.returns
returns c = dropped_refuted
