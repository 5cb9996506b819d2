use Rattle.sm_product.proofs.laws.sites_keep_chosen.Goals as goal
use Rattle.sm_product.proofs.ChoicesLemmas.{kept_parts_chosen}

pub returns : goal.returns
returns c = kept_parts_chosen
