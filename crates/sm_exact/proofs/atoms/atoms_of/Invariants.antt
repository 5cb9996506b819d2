-- The variables so far, with those of the forms from here on, are those of all forms.
use Rattle.sm_exact.proofs.Imports.{◌≡◌, [], drop, with_forms}
use Rattle.sm_exact.proofs.atoms.atoms_of.Given as goal

abbrev pub invariant-loop-f : goal.invariant-loop-f
invariant-loop-f l = with_forms l.forms [] ≡ with_forms (drop l.f-index l.forms) l.atoms.items
