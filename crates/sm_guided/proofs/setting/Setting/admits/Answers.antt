-- The assumption may be computed.
use Rattle.sm_eval.specs.StoredValues.{sorts_of}
use Rattle.sm_replay.proofs.RunnableTasks.{assumes}
use Rattle.sm_task.specs.Tasks.{parts_of}
use Rattle.sm_guided.proofs.setting.Setting.admits.Goals as goal

pub is_met-requires : goal.is_met-requires
is_met-requires c = assumes (parts_of c.args.self.now.task.now) (sorts_of c.args.s.now) c.args.self.now.runs c.requires
