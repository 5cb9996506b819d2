-- The first elements are quiet.
use Rattle.sm_cc.proofs.Imports.{◌≡◌, ◌<◌, ℕ, slice_get, Some, IsQuietBehind}
use Rattle.sm_cc.specs.declared.row.Row.{Row}
use Rattle.sm_cc.proofs.quiet.are_new_quiet.Given as goal

abbrev pub invariant-loop-r : goal.invariant-loop-r
invariant-loop-r l = (i : ℕ) (r : Row) → i < l.r-index → slice_get l.more i ≡ Some r → IsQuietBehind l.c l.roots l.apart r.element
