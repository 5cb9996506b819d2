-- Those so far are true.
use Rattle.sm_check.proofs.Imports.{◌≡◌, ◌<◌, ℕ, Bool, true, slice_index_or}
use Rattle.sm_check.proofs.jobs.leading.Given as goal

abbrev pub invariant-loop-i : goal.invariant-loop-i
invariant-loop-i l = (k : ℕ) (d : Bool) → k < l.i → slice_index_or l.list k d ≡ true
