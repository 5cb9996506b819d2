use Rattle.std.proofs.Common.{rules}
use Rattle.sm_par.proofs.OrderLemmas.{stand_by}
use Rattle.sm_par.proofs.jobs.run_jobs.Goals as goal

pub returns : goal.returns
returns g c =
    stand_by _ (g.J.Job.stands_for c.args.job.now) 0 c.args.count c.run_calls.result (λ i t below given. search (rules, given))
    c.run_calls.ensures
