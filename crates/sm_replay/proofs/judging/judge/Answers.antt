-- A verdict is a violation exactly where there is one.
use Rattle.sm_replay.proofs.Imports.{task_of, parts_of, meaning}
use Rattle.sm_replay.proofs.VerdictSound.{violates_exactly}
use Rattle.sm_replay.proofs.RunnableTasks.{filled_sorted}
use Rattle.sm_replay.proofs.judging.judge.Goals as goal

pub judged-requires-clause-sorted : goal.judged-requires-clause-sorted
judged-requires-clause-sorted c = filled_sorted (parts_of c.args.task.now) c.args.programs.now c.requires.runs c.requires.filled

pub returns-clause-violates : goal.returns-clause-violates
returns-clause-violates c =
    violates_exactly (task_of (parts_of c.args.task.now)) (meaning c.args.input.now) c.args.turns c.judged.result
    (c.judged.ensures c.requires.filled)
