-- The least index so far.
use Rattle.sm_replay.proofs.Imports.{◌⊎◌, ◌<◌, ℕ, ℤ, IfSome, Element, index_at, end_in, IsUpTo, KeepsAt}
use Rattle.sm_replay.proofs.first_break.least_in.Given as goal

abbrev pub invariant-loop-p : goal.invariant-loop-p
invariant-loop-p l = record {
  found : IfSome l.least (λ (i : ℤ). ¬ KeepsAt (end_in l.ends) (Element l.a.0 i));
  old : (i : ℤ) → IsUpTo l.fn.found i → IsUpTo l.least i;
  new : (q : ℕ) → q < l.p → KeepsAt (end_in l.ends) (Element l.a.0 (index_at l.cells q)) ⊎ IsUpTo l.least (index_at l.cells q);
}
