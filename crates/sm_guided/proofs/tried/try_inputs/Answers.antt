-- Each name of the filled programs stands as it is declared.
use Rattle.sm_replay.proofs.RunnableTasks.{filled_sorted}
use Rattle.sm_task.specs.Tasks.{parts_of}
use Rattle.sm_guided.proofs.tried.try_inputs.Goals as goal

pub new-requires-clause-sorted : goal.new-requires-clause-sorted
new-requires-clause-sorted g c =
    filled_sorted (parts_of c.args.task.now) c.in_ok-programs.programs c.requires.runs c.in_ok-programs.ensures
