-- The first equation is the first behind the forms so far.
use Rattle.sm_exact.proofs.Imports.{◌≡◌, take, drop, first_equation, passed}
use Rattle.sm_exact.proofs.equation.first_equation.Given as goal

abbrev pub invariant-loop-place : goal.invariant-loop-place
invariant-loop-place l = first_equation l.forms ≡ passed (take l.place l.forms) (first_equation (drop l.place l.forms))
