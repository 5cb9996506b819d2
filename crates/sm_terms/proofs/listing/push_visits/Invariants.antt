-- The visits of the terms behind a place are pushed.
use Rattle.sm_terms.proofs.Imports.{◌≡◌, ◌≤◌, ◌++◌, length, drop, visits}
use Rattle.sm_terms.proofs.listing.push_visits.Given as goal

abbrev pub invariant-loop-left : goal.invariant-loop-left
invariant-loop-left l = record {
  inside : l.left ≤ length l.terms;
  pushed : l.steps.items ≡ l.fn.steps.items ++ visits (drop l.left l.terms);
}

abbrev pub decreases-loop-left : goal.decreases-loop-left
decreases-loop-left l = l.left
