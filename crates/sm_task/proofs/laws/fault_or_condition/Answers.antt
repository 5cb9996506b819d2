use Rattle.sm_task.proofs.RefusalUnique.{fault_or_condition}
use Rattle.sm_task.proofs.laws.fault_or_condition.Goals as goal

pub returns : goal.returns
returns c = fault_or_condition
