-- The first places behind the base were looked at.
use Rattle.sm_cc.proofs.Imports.{◌≡◌, ◌+◌, length, AreLooked}
use Rattle.sm_cc.proofs.behind.look.Given as goal

abbrev pub invariant-loop-k : goal.invariant-loop-k
invariant-loop-k l = record {
  looked : AreLooked l.ground l.more l.s;
  place : length l.s.roots.items ≡ length l.ground.closure.rows.items + l.k;
}
