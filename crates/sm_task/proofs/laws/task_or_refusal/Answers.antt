use Rattle.sm_task.proofs.RefusalUnique.{task_or_refusal}
use Rattle.sm_task.proofs.laws.task_or_refusal.Goals as goal

pub returns : goal.returns
returns c = task_or_refusal
