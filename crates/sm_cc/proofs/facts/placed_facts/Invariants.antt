-- The first facts are sorted by their kinds.
use Rattle.sm_cc.proofs.Imports.{◌≡◌, take, placed_equations, placed_contraries}
use Rattle.sm_cc.proofs.facts.placed_facts.Given as goal

abbrev pub invariant-loop-g : goal.invariant-loop-g
invariant-loop-g l = record {
  equations : l.equal.items ≡ placed_equations l.positions (take l.g-index l.facts);
  contraries : l.unequal.items ≡ placed_contraries l.positions (take l.g-index l.facts);
}
