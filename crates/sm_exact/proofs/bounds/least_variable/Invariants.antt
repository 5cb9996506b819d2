-- The least variable so far is that of the forms from here on.
use Rattle.sm_exact.proofs.Imports.{◌≡◌, ◌≤◌, length, drop, least_variable}
use Rattle.sm_exact.proofs.bounds.least_variable.Given as goal

abbrev pub invariant-loop-i : goal.invariant-loop-i
invariant-loop-i l = record {
  within : l.i ≤ length l.forms;
  least : l.least ≡ least_variable (drop l.i l.forms);
}

abbrev pub decreases-loop-i : goal.decreases-loop-i
decreases-loop-i l = l.i
