use Rattle.sm_task.proofs.Imports.{◌≡◌, [], drop, first_repeated}
use Rattle.sm_task.proofs.holes.first_repeated.Given as goal

abbrev pub invariant-loop-hole : goal.invariant-loop-hole
invariant-loop-hole l = first_repeated [] l.holes ≡ first_repeated l.seen.keys (drop l.hole-index l.holes)
