use Rattle.sm_proof.proofs.laws.pass_is_free.Goals as goal
use Rattle.sm_proof.proofs.PassSound.{pass_free}

-- src/laws.rt:6:1
pub returns : goal.returns
returns c = pass_free
