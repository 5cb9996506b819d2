use Rattle.sm_plan.proofs.laws.subsets_ascend.Goals as goal
use Rattle.sm_plan.proofs.MasksExact as masks

pub returns-clause-ascend : goal.returns-clause-ascend
returns-clause-ascend c = masks.subsets_ascend

pub returns-clause-exact : goal.returns-clause-exact
returns-clause-exact c = masks.mask_exact
