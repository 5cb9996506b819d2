-- The first bodies have been copied.
use Rattle.sm_term.proofs.Imports.{◌≡◌, [], take, trees_in, sorts_in, codes_in}
use Rattle.sm_term.proofs.table.TermTable.copied_bodies.Given as goal

abbrev pub invariant-loop-body : goal.invariant-loop-body
invariant-loop-body l = record {
  sorts : sorts_in l.copy ≡ sorts_in l.self;
  codes : codes_in l.copy ≡ take l.body-index (codes_in l.self);
  trees : trees_in l.copy ≡ [];
}
