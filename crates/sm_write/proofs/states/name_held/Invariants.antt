-- The first names.
use Rattle.sm_write.proofs.Imports.{copy_named, NamesHeld, value_of}
use Rattle.sm_write.proofs.states.name_held.Given as goal

abbrev pub invariant-loop-x : goal.invariant-loop-x
invariant-loop-x l = NamesHeld l.table (value_of l.fn.w) (value_of l.w) (copy_named l.copy) l.terms l.x
