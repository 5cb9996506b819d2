-- The numbers so far whose marks are there.
use Rattle.std.proofs.Common.{◌≡◌, take}
use Rattle.sm_houdini.specs.Marks.{numbers_of}
use Rattle.sm_houdini.proofs.marks.kept_numbers.Given as goal

abbrev pub invariant-loop-mark : goal.invariant-loop-mark
invariant-loop-mark l = l.list.items ≡ numbers_of (take l.mark-index l.marks)
