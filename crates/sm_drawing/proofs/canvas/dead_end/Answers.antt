-- A dead end keeps nothing.
use Rattle.sm_drawing.proofs.ReadyPlans.{dead_ready}
use Rattle.sm_drawing.proofs.canvas.dead_end.Goals as goal

pub returns : goal.returns
returns c = λ sorts trees. dead_ready sorts trees
