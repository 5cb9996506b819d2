-- There is no lower bound so far.
use Rattle.sm_exact.proofs.Imports.{◌≡◌, drop, lower_bounds}
use Rattle.sm_exact.proofs.splinters.find_lower.Given as goal

abbrev pub invariant-loop-place : goal.invariant-loop-place
invariant-loop-place l = lower_bounds l.t (drop l.from l.forms) ≡ lower_bounds l.t (drop l.place l.forms)
