use Rattle.sm_houdini.proofs.laws.final_has_no_owner.Goals as goal
use Rattle.sm_houdini.proofs.OwnersLemmas.{owners_final}

pub returns : goal.returns
returns c = owners_final
