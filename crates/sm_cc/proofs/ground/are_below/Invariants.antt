-- The first numbers are below the bound.
use Rattle.std.proofs.Common.{◌≡◌, ◌<◌, ℕ, slice_get, Some}
use Rattle.sm_cc.proofs.ground.are_below.Given as goal

abbrev pub invariant-loop-p : goal.invariant-loop-p
invariant-loop-p l = (i n : ℕ) → i < l.p-index → slice_get l.places i ≡ Some n → n < l.bound
