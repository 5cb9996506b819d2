use Rattle.sm_cc.proofs.laws.classes_are_least.Goals as goal
use Rattle.sm_cc.proofs.LeastLemmas.{classes_least}

pub returns : goal.returns
returns c = classes_least
