-- What the formulas that are left tell goes behind what is told.
use Rattle.sm_certify.proofs.Imports.{◌≡◌, ◌++◌, drop, given_from}
use Rattle.sm_certify.proofs.ContrariesLemmas.{are_contraries, sides_of}
use Rattle.sm_certify.proofs.unequal.add_contraries.Given as goal

abbrev pub invariant-loop-f : goal.invariant-loop-f
invariant-loop-f l = record {
  none : are_contraries (given_from 0 (drop l.f-index l.facts)) ≡ are_contraries (given_from 0 l.facts);
  pairs : l.pairs.items ++ sides_of (given_from 0 (drop l.f-index l.facts)) ≡ l.fn.pairs.items ++ sides_of (given_from 0 l.facts);
}
