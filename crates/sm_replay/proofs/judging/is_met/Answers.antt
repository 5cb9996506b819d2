-- A condition has no loop and takes no memory.
use Rattle.sm_replay.proofs.Imports.{condition_of, meaning}
use Rattle.sm_replay.proofs.AssumptionSound.{no_turns, no_memory}
use Rattle.sm_replay.proofs.judging.is_met.Goals as goal

pub unreachable-requires : goal.unreachable-requires
unreachable-requires c = no_turns (condition_of c.in-Some.c) (meaning c.args.input.now) (cc)

pub unreachable-requires-in-Err-Memory : goal.unreachable-requires-in-Err-Memory
unreachable-requires-in-Err-Memory c = no_memory (condition_of c.in-Some.c) (meaning c.args.input.now) (cc)
