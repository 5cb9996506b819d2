use Rattle.sm_houdini.proofs.laws.kept_is_inductive.Goals as goal
use Rattle.sm_houdini.proofs.RoundsLemmas.{kept_inductive}

pub returns : goal.returns
returns c = kept_inductive
