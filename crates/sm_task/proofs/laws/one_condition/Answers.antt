use Rattle.sm_task.proofs.RefusalUnique.{one_condition}
use Rattle.sm_task.proofs.laws.one_condition.Goals as goal

pub returns : goal.returns
returns c = one_condition
