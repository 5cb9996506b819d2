use Rattle.sm_batch.proofs.Imports.{rules, MayAnswer}
use Rattle.sm_batch.proofs.JobLemmas.{all_answered}
use Rattle.sm_batch.proofs.answering.answer_all.Goals as goal

pub returns : goal.returns
returns g c =
    all_answered _ (MayAnswer g.A.Fn c.args.answer.now) c.args.tasks.now _ c.run_calls.result (search rules)
    (λ i a below given. search (rules, given)) c.run_calls.ensures
