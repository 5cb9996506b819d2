-- The coefficient is that among the parts from here on.
use Rattle.sm_fm.proofs.Imports.{◌≡◌, drop, coefficient, same_atom}
use Rattle.sm_fm.proofs.roles.coefficient.Given as goal

abbrev pub invariant-loop-part : goal.invariant-loop-part
invariant-loop-part l = coefficient same_atom l.t l.parts ≡ coefficient same_atom l.t (drop l.part-index l.parts)
