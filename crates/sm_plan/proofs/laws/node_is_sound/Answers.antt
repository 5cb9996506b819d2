use Rattle.sm_plan.proofs.laws.node_is_sound.Goals as goal
use Rattle.sm_plan.proofs.NodeSound.{node_below, node_goals_below, node_sound}

pub returns-clause-sound : goal.returns-clause-sound
returns-clause-sound c = node_sound

pub returns-clause-below : goal.returns-clause-below
returns-clause-below c = node_below

pub returns-clause-goals : goal.returns-clause-goals
returns-clause-goals c = node_goals_below
