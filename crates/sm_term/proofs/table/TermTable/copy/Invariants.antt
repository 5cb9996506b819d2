-- The first terms have been copied.
use Rattle.sm_term.proofs.Imports.{◌≡◌, take, trees_in, sorts_in, codes_in}
use Rattle.sm_term.proofs.table.TermTable.copy.Given as goal

abbrev pub invariant-loop-term : goal.invariant-loop-term
invariant-loop-term l = record {
  sorts : sorts_in l.copy ≡ sorts_in l.self;
  codes : codes_in l.copy ≡ codes_in l.self;
  trees : trees_in l.copy ≡ take l.term-index (trees_in l.self);
}
