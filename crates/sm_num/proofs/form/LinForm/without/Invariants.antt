-- The parts so far are those at other atoms.
use Rattle.sm_num.proofs.Imports.{◌≡◌, take, parts_without, same_atom}
use Rattle.sm_num.proofs.form.LinForm.without.Given as goal

abbrev pub invariant-loop-part : goal.invariant-loop-part
invariant-loop-part l = l.parts.items ≡ parts_without same_atom l.t (take l.part-index l.part-items)
