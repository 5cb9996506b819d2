-- The parts from here on are over their places.
use Rattle.sm_exact.proofs.Imports.{◌≡◌, ◌≤◌, length, drop, pos, ArePlaced}
use Rattle.sm_exact.proofs.placing.placed.Given as goal

abbrev pub invariant-loop-left : goal.invariant-loop-left
invariant-loop-left l = record {
  within : l.left ≤ length l.parts;
  parts : ArePlaced l.terms (drop l.left l.parts) l.sum.parts;
  constant : l.sum.constant ≡ pos 0;
}

abbrev pub decreases-loop-left : goal.decreases-loop-left
decreases-loop-left l = l.left
