use Rattle.sm_theory.proofs.laws.arrays_add_what_is_below.Goals as goal
use Rattle.sm_theory.proofs.ElementsLemmas.{arrays_below}

-- src/laws.rt:42:1
pub returns : goal.returns
returns c = arrays_below
