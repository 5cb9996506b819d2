-- The number so far, with the parts from here on, gives that of all parts.
use Rattle.sm_exact.proofs.Imports.{◌≡◌, drop, above_parts}
use Rattle.sm_exact.proofs.atoms.above_parts.Given as goal

abbrev pub invariant-loop-part : goal.invariant-loop-part
invariant-loop-part l = above_parts l.parts l.fn.n ≡ above_parts (drop l.part-index l.parts) l.above
