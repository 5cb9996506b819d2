use Rattle.sm_replay.proofs.VerdictUnique.{verdict_one}
use Rattle.sm_replay.proofs.laws.verdict_is_one.Goals as goal

pub returns : goal.returns
returns c = verdict_one
