-- The divisor so far is that of the parts from here on.
use Rattle.sm_num.proofs.Imports.{◌≡◌, ◌≤◌, length, drop, divisor_of_parts}
use Rattle.sm_num.proofs.dividing.parts_divisor.Given as goal

abbrev pub invariant-loop-i : goal.invariant-loop-i
invariant-loop-i l = record {
  within : l.i ≤ length l.parts;
  divisor : l.d ≡ divisor_of_parts (drop l.i l.parts);
}

abbrev pub decreases-loop-i : goal.decreases-loop-i
decreases-loop-i l = l.i
