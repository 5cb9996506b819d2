-- As many atoms as were put.
use Rattle.sm_judge.proofs.Imports.{◌≡◌, length, AreNumbered}
use Rattle.sm_judge.proofs.summing.places_below.Given as goal

abbrev pub invariant-loop-n : goal.invariant-loop-n
invariant-loop-n l = record {
  numbered : AreNumbered 0 l.list.items;
  count : length l.list.items ≡ l.n;
}
