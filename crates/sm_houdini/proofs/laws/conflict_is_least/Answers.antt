use Rattle.sm_houdini.proofs.laws.conflict_is_least.Goals as goal
use Rattle.sm_houdini.proofs.OutcomeLemmas.{conflict_least}

pub returns : goal.returns
returns c = conflict_least
