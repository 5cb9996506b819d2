use Rattle.sm_product.proofs.laws.products_expand.Goals as goal
use Rattle.sm_product.proofs.FreshLemmas.{plan_is_fresh}
use Rattle.sm_product.proofs.HolesLemmas.{valid_no_hole}
use Rattle.sm_product.proofs.ObligationsLemmas.{expands_exactly}

pub returns : goal.returns
returns c = record { fresh = plan_is_fresh; expands = expands_exactly; no_hole = valid_no_hole }
