-- What the jobs tell, each of its run.
use denote.Param.Send.{sendable}
use Rattle.sm_houdini.proofs.Imports.{crosses, PlanEndsValue, table_sync, due_sync}
use Rattle.sm_houdini.proofs.ClosingLemmas.{ok_map}
use Rattle.sm_houdini.proofs.EndJobsLemmas.{plan_told}
use Rattle.sm_houdini.proofs.SharedLemmas.{run_end_send}
use Rattle.sm_houdini.proofs.end_jobs.run_ends.Goals as goal

pub run_jobs-requires-sync-J : goal.run_jobs-requires-sync-J
run_jobs-requires-sync-J g c κs within = search (table_sync, due_sync, sendable, crosses) depth 40

pub run_jobs-requires-send-J-Out : goal.run_jobs-requires-send-J-Out
run_jobs-requires-send-J-Out g c κs within = search (run_end_send, sendable, crosses) depth 40

pub returns : goal.returns
returns g c =
    let v : PlanEndsValue =
    record { table = c.args.table.now; dues = c.args.dues.now; each = c.args.each; reach = c.args.reach; count = c.in-Some.count } in
    ok_map c.run_jobs.result _ _ (λ runs told. plan_told v c.requires.some c.in-Some.ensures.1 runs.items told) c.run_jobs.ensures
