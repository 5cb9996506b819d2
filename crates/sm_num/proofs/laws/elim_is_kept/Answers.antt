use Rattle.sm_num.proofs.laws.elim_is_kept.Goals as goal
use Rattle.sm_num.proofs.KeptLemmas.{eliminated_is_kept}

-- src/laws.rt:63:1
pub returns : goal.returns
returns c = eliminated_is_kept
