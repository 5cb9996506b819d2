-- The greatest so far, with the coefficients from here on, is that of all.
use Rattle.sm_exact.proofs.Imports.{take, drop, IsTrue, All, fits_form, at}
use Rattle.sm_exact.proofs.BoundsLemmas.{IsTop}
use Rattle.sm_exact.proofs.bounds.greatest_upper.Given as goal

abbrev pub invariant-loop-f : goal.invariant-loop-f
invariant-loop-f l = record {
  top : IsTop l.t l.forms (drop l.f-index l.forms) l.greatest;
  numbers : All (λ f. IsTrue (fits_form (at l.t f))) (take l.f-index l.forms);
}
