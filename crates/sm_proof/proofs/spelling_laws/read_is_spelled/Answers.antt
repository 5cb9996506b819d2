use Rattle.sm_proof.proofs.ReadIsSpelled.{read_spelled}
use Rattle.sm_proof.proofs.spelling_laws.read_is_spelled.Goals as goal

pub returns : goal.returns
returns c = read_spelled
