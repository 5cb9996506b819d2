-- The first terms are there, under their places, which are noted.
use Rattle.sm_list.proofs.Imports.{◌≡◌, length, take, trees_in, sorts_in, codes_in, trees_at, ArePlaced}
use Rattle.sm_list.proofs.shared.put_rest.Given as goal

abbrev pub invariant-loop-k : goal.invariant-loop-k
invariant-loop-k l = record {
  sorts : sorts_in l.own ≡ sorts_in l.table;
  codes : codes_in l.own ≡ codes_in l.table;
  count : length l.numbers.items ≡ length (trees_in l.table);
  trees : trees_in l.own ≡ take l.k (trees_at (trees_in l.table) l.terms);
  placed : ArePlaced (trees_in l.table) (trees_in l.own) l.numbers.items;
}
