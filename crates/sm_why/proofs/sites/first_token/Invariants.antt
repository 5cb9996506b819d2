-- No hole so far.
use Rattle.sm_why.proofs.Imports.{◌≡◌, ◌<◌, ℕ, false, begins_hole}
use Rattle.sm_why.proofs.sites.first_token.Given as goal

abbrev pub invariant-loop-k : goal.invariant-loop-k
invariant-loop-k l = (j : ℕ) → j < l.k → begins_hole l.symbols l.hole j ≡ false
