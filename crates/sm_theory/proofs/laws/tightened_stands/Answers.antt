use Rattle.sm_theory.proofs.laws.tightened_stands.Goals as goal
use Rattle.sm_theory.proofs.LinearStanding.{tightened_stands}

-- src/laws.rt:58:1
pub returns : goal.returns
returns c = λ trees f g distinct keeps. tightened_stands trees distinct f g keeps
