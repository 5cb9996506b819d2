use Rattle.sm_proof.proofs.laws.prefixes_fail.Goals as goal
use Rattle.sm_proof.proofs.PrefixesFail.{prefixes_fail}

-- src/laws.rt:11:1
pub returns : goal.returns
returns c = prefixes_fail
