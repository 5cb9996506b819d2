-- The parts so far are divided.
use Rattle.sm_num.proofs.Imports.{◌≡◌, take, divided_parts}
use Rattle.sm_num.proofs.dividing.divide_parts.Given as goal

abbrev pub invariant-loop-part : goal.invariant-loop-part
invariant-loop-part l = l.out.items ≡ divided_parts l.d (take l.part-index l.parts)
