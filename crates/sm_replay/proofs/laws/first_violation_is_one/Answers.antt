use Rattle.sm_replay.proofs.VerdictUnique.{first_violation_one}
use Rattle.sm_replay.proofs.laws.first_violation_is_one.Goals as goal

pub returns : goal.returns
returns c = first_violation_one
