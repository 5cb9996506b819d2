-- No line feed so far.
use Rattle.sm_explain.specs.Places.{HasNoFeed}
use Rattle.sm_explain.proofs.places.line_end.Given as goal

abbrev pub invariant-loop-k : goal.invariant-loop-k
invariant-loop-k l = HasNoFeed l.text l.offset l.k
