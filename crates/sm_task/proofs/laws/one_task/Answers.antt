use Rattle.sm_text.proofs.Complete.Tasks as text
use Rattle.sm_task.proofs.laws.one_task.Goals as goal

pub returns : goal.returns
returns c bytes t u p q = text.one_parse bytes t u p.text q.text
