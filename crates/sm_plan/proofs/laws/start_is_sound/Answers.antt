use Rattle.sm_plan.proofs.laws.start_is_sound.Goals as goal
use Rattle.sm_plan.proofs.BelowLemmas.{start_below}
use Rattle.sm_plan.proofs.PlanSound.{start_conflict_free}

pub returns-clause-below : goal.returns-clause-below
returns-clause-below c = start_below 0

pub returns-clause-free : goal.returns-clause-free
returns-clause-free c = start_conflict_free
