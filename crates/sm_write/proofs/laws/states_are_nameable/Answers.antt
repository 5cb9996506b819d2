-- A state's number is that of the state.
use Rattle.sm_write.proofs.BranchNameable.{states_are_nameable}
use Rattle.sm_write.proofs.laws.states_are_nameable.Goals as goal

pub returns : goal.returns
returns c = states_are_nameable
