use Rattle.sm_replay.proofs.ViolationsSound.{violation_conflicts}
use Rattle.sm_replay.proofs.laws.violations_conflict.Goals as goal

pub returns : goal.returns
returns c = violation_conflicts
