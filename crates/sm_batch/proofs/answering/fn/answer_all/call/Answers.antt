use Rattle.sm_batch.proofs.JobLemmas.{answered_there}
use Rattle.sm_batch.proofs.answering.fn.answer_all.call.Goals as goal

pub returns : goal.returns
returns g c =
    answered_there g.A.Fn c.captures.answer.now c.captures.tasks.now c.args.index c.index-place.result c.answer_to.result c.answer_to.ensures
