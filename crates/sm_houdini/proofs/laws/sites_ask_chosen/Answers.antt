use Rattle.sm_houdini.proofs.laws.sites_ask_chosen.Goals as goal
use Rattle.sm_houdini.proofs.OwnersLemmas.{owners_ask}

pub returns : goal.returns
returns c = owners_ask
