-- The least part is that of the least so far and those from here on.
use Rattle.sm_exact.proofs.Imports.{◌≡◌, drop, least_part, least_part_of}
use Rattle.sm_exact.proofs.equation.least_part.Given as goal

abbrev pub invariant-loop-part : goal.invariant-loop-part
invariant-loop-part l = least_part_of l.least (drop l.part-index l.parts) ≡ least_part l.parts
