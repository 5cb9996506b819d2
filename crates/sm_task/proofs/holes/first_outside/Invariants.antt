use Rattle.sm_task.proofs.Imports.{◌≡◌, drop, first_outside}
use Rattle.sm_task.proofs.holes.first_outside.Given as goal

abbrev pub invariant-loop-hole : goal.invariant-loop-hole
invariant-loop-hole l = first_outside l.others l.holes ≡ first_outside l.others (drop l.hole-index l.holes)
