-- The number so far is above the variables of the forms from here on.
use Rattle.sm_exact.proofs.Imports.{◌≡◌, ◌≤◌, length, drop, above_all}
use Rattle.sm_exact.proofs.atoms.above_all.Given as goal

abbrev pub invariant-loop-i : goal.invariant-loop-i
invariant-loop-i l = record {
  within : l.i ≤ length l.forms;
  above : l.above ≡ above_all (drop l.i l.forms);
}

abbrev pub decreases-loop-i : goal.decreases-loop-i
decreases-loop-i l = l.i
