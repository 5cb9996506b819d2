-- The first elements are quiet.
use Rattle.sm_cc.proofs.Imports.{◌≡◌, ◌<◌, ℕ, slice_get, Some, IsQuiet}
use Rattle.sm_cc.specs.declared.row.Row.{Row}
use Rattle.sm_cc.proofs.quiet.are_old_quiet.Given as goal

abbrev pub invariant-loop-i : goal.invariant-loop-i
invariant-loop-i l = (i : ℕ) (r : Row) → i < l.i → slice_get l.c.rows.items i ≡ Some r → IsQuiet l.c l.roots l.apart i r.element
