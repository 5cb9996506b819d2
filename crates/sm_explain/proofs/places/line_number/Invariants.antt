-- The line feeds so far.
use Rattle.sm_explain.proofs.Imports.{◌≡◌, ◌+◌, ◌≤◌, take, line_feeds}
use Rattle.sm_explain.proofs.places.line_number.Given as goal

abbrev pub invariant-loop-k : goal.invariant-loop-k
invariant-loop-k l = record {
  counted : l.line ≡ 1 + line_feeds (take l.k l.text);
  few : l.line ≤ l.k + 1;
}
