use Rattle.sm_houdini.proofs.laws.outcome_is_one.Goals as goal
use Rattle.sm_houdini.proofs.OutcomeLemmas.{outcomes_same}
use Rattle.sm_replay.proofs.VerdictUnique.{first_violation_one}

pub returns : goal.returns
returns c = outcomes_same first_violation_one
