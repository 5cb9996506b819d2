-- The first bodies have numbers, and the others are still to be put in.
use Rattle.sm_term.proofs.Imports.{◌≡◌, Some, map, take, drop, code_of, trees_in, codes_in, with_codes, codes_numbered, KeepsRows}
use Rattle.sm_term.proofs.table.TermTable.numbers.Given as goal

abbrev pub invariant-loop-block : goal.invariant-loop-block
invariant-loop-block l = record {
  stored : codes_numbered (codes_in l.self) l.numbers.items ≡ map Some (take l.block-index (map code_of l.blocks));
  codes : with_codes (codes_in l.self) (drop l.block-index (map code_of l.blocks)) ≡ with_codes (codes_in l.fn.self) (map code_of l.blocks);
  trees : trees_in l.self ≡ trees_in l.fn.self;
  rows : KeepsRows l.fn.self l.self;
}
