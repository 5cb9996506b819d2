-- The end keeps nothing.
use Rattle.sm_drawing.proofs.ReadyPlans.{end_ready}
use Rattle.sm_drawing.proofs.canvas.whole_end.Goals as goal

pub returns : goal.returns
returns c = λ sorts trees. end_ready sorts trees
