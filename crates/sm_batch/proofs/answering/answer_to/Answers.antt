use Rattle.sm_batch.proofs.JobLemmas.{answered}
use Rattle.sm_batch.proofs.answering.answer_to.Goals as goal

pub returns : goal.returns
returns g c = answered g.A.Fn c.args.answer.now c.args.task c.answer.result c.answer.ensures
