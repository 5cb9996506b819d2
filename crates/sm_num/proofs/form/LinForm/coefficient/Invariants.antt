-- The coefficient is that among the parts from here on.
use Rattle.sm_num.proofs.Imports.{◌≡◌, drop, coefficient, same_atom}
use Rattle.sm_num.proofs.form.LinForm.coefficient.Given as goal

abbrev pub invariant-loop-part : goal.invariant-loop-part
invariant-loop-part l = coefficient same_atom l.t l.part-items ≡ coefficient same_atom l.t (drop l.part-index l.part-items)
