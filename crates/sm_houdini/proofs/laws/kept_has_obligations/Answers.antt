use Rattle.sm_houdini.proofs.laws.kept_has_obligations.Goals as goal
use Rattle.sm_houdini.proofs.KeptLemmas.{kept_expands}

pub returns : goal.returns
returns c = kept_expands
