-- No place that was passed has a constant and is in one of the two classes.
use Rattle.sm_cc.proofs.Imports.{◌≡◌, ℕ, ◌<◌, false, is_constant_of}
use Rattle.sm_cc.proofs.witness.have_constant.Given as goal

abbrev pub invariant-loop-p : goal.invariant-loop-p
invariant-loop-p l = (m : ℕ) → m < l.p → is_constant_of l.c l.i l.j m ≡ false
