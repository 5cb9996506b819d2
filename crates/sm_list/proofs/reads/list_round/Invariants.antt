-- What is left to read of the terms makes what all make.
use Rattle.sm_list.proofs.Imports.{◌≡◌, ◌++◌, List, length, drop, Tree, trees_in, AddsTerms, with_reads, trees_at, AreBelow}
use Rattle.sm_list.proofs.reads.list_round.Given as goal

abbrev pub invariant-loop-k : goal.invariant-loop-k
invariant-loop-k l =
    let seen = trees_at (trees_in l.fn.table) l.fn.listed in
    let now = trees_at (trees_in l.table) l.listed in
    record {
      listed : AreBelow (length (trees_in l.table)) l.listed;
      grows : AddsTerms l.fn.table l.table;
      longer : (more : List Tree) × (now ≡ seen ++ more);
      rest : with_reads (drop l.k seen) now ≡ with_reads (drop l.fn.from seen) seen;
    }
