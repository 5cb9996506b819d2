use Rattle.sm_theory.proofs.laws.contradictory_stands.Goals as goal
use Rattle.sm_theory.proofs.LinearStanding.{contradictory_stands}

-- src/laws.rt:64:1
pub returns : goal.returns
returns c = λ trees f g distinct keeps. contradictory_stands trees distinct f g keeps
