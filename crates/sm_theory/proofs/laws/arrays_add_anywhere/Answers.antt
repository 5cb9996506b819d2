use Rattle.sm_theory.proofs.laws.arrays_add_anywhere.Goals as goal
use Rattle.sm_theory.proofs.ElementsLemmas.{arrays_anywhere}

-- src/laws.rt:47:1
pub returns : goal.returns
returns c = arrays_anywhere
