-- The first rows have been put in, and the others are still to be.
use Rattle.sm_term.proofs.Imports.{◌≡◌, Some, List, ◌++◌, map, take, drop, Tree, trees_in, codes_in, with_trees, with_codes, row_codes, row_trees, trees_numbered, codes_numbered, KeepsRows}
use Rattle.sm_term.proofs.table.TermTable.adopted.Given as goal

abbrev pub invariant-loop-term : goal.invariant-loop-term
invariant-loop-term l = record {
  rows : KeepsRows l.fn.self l.self;
  codes : codes_in l.self ≡ with_codes (codes_in l.fn.self) (row_codes l.rows);
  bodies : codes_numbered (codes_in l.self) l.numbers.items ≡ map Some (row_codes l.rows);
  more : (more : List Tree) × (trees_in l.self ≡ trees_in l.fn.self ++ more);
  trees : with_trees (trees_in l.self) (drop l.term-index (row_trees (take l.from (trees_in l.fn.self)) l.rows)) ≡ with_trees (trees_in l.fn.self) (row_trees (take l.from (trees_in l.fn.self)) l.rows);
  stored : trees_numbered (trees_in l.self) l.list.items ≡ map Some (take l.term-index (row_trees (take l.from (trees_in l.fn.self)) l.rows));
}
