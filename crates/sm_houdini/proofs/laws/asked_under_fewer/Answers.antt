use Rattle.sm_houdini.proofs.laws.asked_under_fewer.Goals as goal
use Rattle.sm_houdini.proofs.ShownLemmas.{asked_under}

pub returns : goal.returns
returns c = asked_under
