use Rattle.sm_replay.proofs.VerdictUnique.{least_one}
use Rattle.sm_replay.proofs.laws.least_trial_is_one.Goals as goal

pub returns : goal.returns
returns c = least_one
