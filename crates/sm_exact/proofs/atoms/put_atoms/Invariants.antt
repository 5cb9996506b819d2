-- The variables so far, with those of the parts from here on, are those of all parts.
use Rattle.sm_exact.proofs.Imports.{◌≡◌, drop, with_parts}
use Rattle.sm_exact.proofs.atoms.put_atoms.Given as goal

abbrev pub invariant-loop-part : goal.invariant-loop-part
invariant-loop-part l = with_parts l.parts l.fn.atoms.items ≡ with_parts (drop l.part-index l.parts) l.atoms.items
