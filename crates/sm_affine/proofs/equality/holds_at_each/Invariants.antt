-- The equality holds at the rows so far.
use Rattle.std.proofs.Common.{take}
use Rattle.sm_affine.specs.Equalities.{HoldsInEach}
use Rattle.sm_affine.proofs.equality.holds_at_each.Given as goal

abbrev pub invariant-loop-row : goal.invariant-loop-row
invariant-loop-row l = HoldsInEach (take l.row-index l.rows) l.equality
