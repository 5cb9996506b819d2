use Rattle.sm_task.proofs.RefusalUnique.{one_refusal}
use Rattle.sm_task.proofs.laws.one_refusal.Goals as goal

pub returns : goal.returns
returns c = one_refusal
