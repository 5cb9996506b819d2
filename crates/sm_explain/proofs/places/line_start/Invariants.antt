-- The line of the place so far.
use Rattle.sm_explain.proofs.Imports.{◌≤◌, StartsLine, HasNoFeed}
use Rattle.sm_explain.proofs.places.line_start.Given as goal

abbrev pub invariant-loop-k : goal.invariant-loop-k
invariant-loop-k l = record {
  inside : l.start ≤ l.k;
  starts : StartsLine l.text l.start;
  one_line : HasNoFeed l.text l.start l.k;
}
