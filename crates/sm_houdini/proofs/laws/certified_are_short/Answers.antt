use Rattle.sm_houdini.proofs.laws.certified_are_short.Goals as goal
use Rattle.sm_houdini.proofs.ShortLines.{certified_short}

pub returns : goal.returns
returns c = certified_short
