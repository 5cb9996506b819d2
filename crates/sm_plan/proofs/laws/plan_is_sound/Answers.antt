use Rattle.sm_plan.proofs.laws.plan_is_sound.Goals as goal
use Rattle.sm_plan.proofs.PlanSound.{plan_conflict_free}

pub returns : goal.returns
returns c = plan_conflict_free
