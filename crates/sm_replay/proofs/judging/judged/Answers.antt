use Rattle.sm_replay.proofs.Imports.{option_map, condition_of, parts_of, meaning, sorts_of}
use Rattle.sm_replay.proofs.AssumptionSound.{told_met}
use Rattle.sm_replay.proofs.RunnableTasks.{assumes}
use Rattle.sm_replay.proofs.judging.judged.Goals as goal

-- the assumption may be computed
pub is_met-requires : goal.is_met-requires
is_met-requires c = assumes (parts_of c.args.task.now) (sorts_of c.args.input.now) c.requires.runs c.requires.declared

pub judged_met-requires-clause-met : goal.judged_met-requires-clause-met
judged_met-requires-clause-met c =
    told_met (option_map condition_of c.args.task.now.assumed) (meaning c.args.input.now) c.in_ok-met.met c.if-met.true c.in_ok-met.ensures
