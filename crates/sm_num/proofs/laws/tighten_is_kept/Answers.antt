use Rattle.sm_num.proofs.laws.tighten_is_kept.Goals as goal
use Rattle.sm_num.proofs.KeptLemmas.{tightened_kept}

-- src/laws.rt:68:1
pub returns : goal.returns
returns c = tightened_kept
