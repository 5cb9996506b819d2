-- The first terms are there, under their places, which are noted.
use Rattle.sm_list.proofs.Imports.{◌≡◌, length, take, trees_in, sorts_in, codes_in, trees_at, numbers_of, ArePlaced}
use Rattle.sm_list.proofs.own.put_terms.Given as goal

abbrev pub invariant-loop-t : goal.invariant-loop-t
invariant-loop-t l = record {
  sorts : sorts_in l.own ≡ sorts_in l.table;
  codes : codes_in l.own ≡ codes_in l.table;
  count : length l.numbers.items ≡ length (trees_in l.table);
  trees : trees_in l.own ≡ take l.t-index (trees_at (trees_in l.table) (numbers_of l.terms));
  placed : ArePlaced (trees_in l.table) (trees_in l.own) l.numbers.items;
}
