use Rattle.sm_deps.proofs.InputsExact.{inputs_exact}
use Rattle.sm_deps.proofs.laws.inputs_are_needed.Goals as goal

pub returns : goal.returns
returns c = inputs_exact
