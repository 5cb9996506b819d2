-- What each job tells.
use denote.Param.Send.{sendable}
use Rattle.sm_deeper.proofs.Imports.{rules, crosses, trees_in, sorts_in, AreRowsSound, table_sync, due_sync, JobEnd}
use Rattle.sm_deeper.proofs.Crossing.{job_end_send}
use Rattle.sm_deeper.proofs.RowsLemmas.{all_hold}
use Rattle.sm_deeper.proofs.end_jobs.all_ends.Goals as goal

pub run_calls-requires-sync-F : goal.run_calls-requires-sync-F
run_calls-requires-sync-F g c κs within = search (table_sync, due_sync, sendable, crosses) depth 40

pub run_calls-requires-send-T : goal.run_calls-requires-send-T
run_calls-requires-send-T g c κs within = search (job_end_send, sendable, crosses) depth 40

pub run_calls-requires-clause-able : goal.run_calls-requires-clause-able
run_calls-requires-clause-able g c κs within = λ i below. c.requires

pub returns : goal.returns
returns g c =
    all_hold _ (λ (e : JobEnd). AreRowsSound (sorts_in c.args.table.now) (trees_in c.args.table.now) e.rows) _ c.run_calls.result
    (λ i e given. search (rules, given)) c.run_calls.ensures
