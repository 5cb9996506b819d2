-- The assumption may be computed.
use Rattle.sm_replay.proofs.Imports.{parts_of, sorts_of}
use Rattle.sm_replay.proofs.RunnableTasks.{assumes}
use Rattle.sm_replay.proofs.trial_jobs.meets.Goals as goal

pub is_met-requires : goal.is_met-requires
is_met-requires c = assumes (parts_of c.args.task.now) (sorts_of c.args.input.now) c.requires.runs c.requires.declared
