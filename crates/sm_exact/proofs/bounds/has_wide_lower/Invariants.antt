-- No coefficient so far is below -1.
use Rattle.sm_exact.proofs.Imports.{◌≤ℤ◌, negsuc, take, All, at}
use Rattle.sm_exact.proofs.bounds.has_wide_lower.Given as goal

abbrev pub invariant-loop-f : goal.invariant-loop-f
invariant-loop-f l = All (λ f. negsuc 0 ≤ℤ at l.t f) (take l.f-index l.forms)
