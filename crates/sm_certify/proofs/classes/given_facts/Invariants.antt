-- What the formulas that are left give goes behind what is given.
use Rattle.sm_certify.proofs.Imports.{◌≡◌, ◌++◌, drop, given_from}
use Rattle.sm_certify.proofs.classes.given_facts.Given as goal

abbrev pub invariant-loop-f : goal.invariant-loop-f
invariant-loop-f l = record {
  count : l.n ≡ l.f-index;
  rest : l.given.items ++ given_from l.n (drop l.f-index l.facts) ≡ given_from 0 l.facts;
}
