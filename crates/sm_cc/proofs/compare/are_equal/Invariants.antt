-- The places that are left decide.
use Rattle.sm_cc.proofs.Imports.{◌≡◌, drop, length, equal_places, are_together}
use Rattle.sm_cc.proofs.compare.are_equal.Given as goal

abbrev pub invariant-loop-k : goal.invariant-loop-k
invariant-loop-k l = record {
  lengths : length l.first ≡ length l.second;
  rest : equal_places (are_together l.c.roots.items) l.first l.second
      ≡ equal_places (are_together l.c.roots.items) (drop l.k l.first) (drop l.k l.second);
}
