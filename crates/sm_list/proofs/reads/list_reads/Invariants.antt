-- Rounds have been made, the last terms of which are to be read yet.
use Rattle.sm_list.proofs.Imports.{◌≡◌, ◌≤◌, ℕ, length, take, drop, trees_in, AddsTerms, with_all_reads, trees_at, AreBelow}
use Rattle.sm_list.proofs.ReadsLemmas.{AllRead, rank_of}
use Rattle.sm_list.proofs.reads.list_reads.Given as goal

abbrev pub invariant-loop-from : goal.invariant-loop-from
invariant-loop-from l =
    let seen = trees_at (trees_in l.table) l.listed in
    record {
      inside : l.from ≤ length l.listed;
      listed : AreBelow (length (trees_in l.table)) l.listed;
      grows : AddsTerms l.fn.table l.table;
      rounds : (r : ℕ) × (seen ≡ with_all_reads r (trees_at (trees_in l.fn.table) l.fn.listed));
      done : AllRead seen (take l.from seen);
    }

abbrev pub decreases-loop-from : goal.decreases-loop-from
decreases-loop-from l = rank_of (drop l.from (trees_at (trees_in l.table) l.listed))
