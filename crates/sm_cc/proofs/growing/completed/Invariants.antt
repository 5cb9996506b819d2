-- The places that were passed have their entries and roots.
use Rattle.sm_cc.proofs.Imports.{◌≡◌, length, AllFollow, AllRooted, placed_with}
use Rattle.sm_cc.proofs.growing.completed.Given as goal

abbrev pub invariant-loop-k : goal.invariant-loop-k
invariant-loop-k l = record {
  follow : AllFollow (placed_with l.rows.items l.equal.items l.unequal.items) l.entries.items;
  rooted : AllRooted l.entries.items l.roots.items;
  count : length l.roots.items ≡ l.k;
}
