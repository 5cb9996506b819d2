-- What the jobs read may be read by several threads at once.
use denote.Param.Send.{sendable}
use Rattle.sm_deeper.proofs.Imports.{crosses, table_sync, due_sync}
use Rattle.sm_deeper.proofs.ahead.all_found.Goals as goal

pub run_calls-requires-sync-F : goal.run_calls-requires-sync-F
run_calls-requires-sync-F g c κs within = search (table_sync, due_sync, sendable, crosses) depth 40

pub run_calls-requires-clause-able : goal.run_calls-requires-clause-able
run_calls-requires-clause-able g c κs within = λ i below. c.requires
