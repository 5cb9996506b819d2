use Rattle.sm_theory.proofs.laws.same_parts_stand.Goals as goal
use Rattle.sm_theory.proofs.LinearLater.{same_parts_stand}

-- src/laws.rt:76:1
pub returns : goal.returns
returns c = same_parts_stand
