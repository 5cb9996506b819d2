-- The number is above the variables so far.
use Rattle.std.proofs.Common.{take}
use Rattle.sm_exact.specs.Rows.{AreBelow}
use Rattle.sm_exact.proofs.modular.is_above.Given as goal

abbrev pub invariant-loop-part : goal.invariant-loop-part
invariant-loop-part l = AreBelow l.s (take l.part-index l.parts)
