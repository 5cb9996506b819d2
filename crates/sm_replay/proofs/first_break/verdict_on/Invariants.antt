-- Keeps holds at the outputs so far.
use Rattle.sm_replay.proofs.Imports.{map, Name, sorts_of, end_in, sorted_by}
use Rattle.sm_replay.proofs.FirstBreakOutputs.{KeptBelow}
use Rattle.sm_replay.proofs.first_break.verdict_on.Given as goal

abbrev pub invariant-loop-x : goal.invariant-loop-x
invariant-loop-x l = KeptBelow (sorted_by (sorts_of l.ends.base) (map (λ (x : Name). x.0) l.outputs)) (end_in l.ends) l.x-index
