-- The first rows name such places.
use Rattle.sm_cc.proofs.Imports.{◌≡◌, ◌<◌, ℕ, length, slice_get, Some, IsRowBelow}
use Rattle.sm_cc.specs.declared.row.Row.{Row}
use Rattle.sm_cc.proofs.ground.are_inside.Given as goal

abbrev pub invariant-loop-r : goal.invariant-loop-r
invariant-loop-r l = (i : ℕ) (r : Row) → i < l.r-index → slice_get l.rows i ≡ Some r → IsRowBelow (length l.rows) r
