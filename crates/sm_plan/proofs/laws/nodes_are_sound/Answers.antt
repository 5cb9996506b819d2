use Rattle.sm_plan.proofs.laws.nodes_are_sound.Goals as goal
use Rattle.sm_plan.proofs.PlanSound.{nodes_conflict_free}

pub returns : goal.returns
returns c = nodes_conflict_free
