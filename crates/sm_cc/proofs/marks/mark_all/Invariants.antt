-- The entries that were passed are marked.
use Rattle.sm_cc.proofs.Imports.{take, Marks}
use Rattle.sm_cc.proofs.marks.mark_all.Given as goal

abbrev pub invariant-loop-n : goal.invariant-loop-n
invariant-loop-n l = Marks l.fn.marks l.marks (take l.n-index l.numbers)
