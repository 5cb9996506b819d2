-- The numbers so far are low.
use Rattle.sm_write.proofs.Imports.{take, AreShortNumbers}
use Rattle.sm_write.proofs.short.are_low.Given as goal

abbrev pub invariant-loop-n : goal.invariant-loop-n
invariant-loop-n l = AreShortNumbers (take l.n-index l.numbers)
