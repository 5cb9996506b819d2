-- The entries that were passed have their numbers.
use Rattle.sm_cc.proofs.Imports.{take, AreNumbers}
use Rattle.sm_cc.proofs.explain.renumbered_list.Given as goal

abbrev pub invariant-loop-n : goal.invariant-loop-n
invariant-loop-n l = AreNumbers l.numbers (take l.n-index l.list) l.found.items
