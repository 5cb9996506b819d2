-- The lines so far lead on.
use Rattle.sm_check.proofs.Imports.{ℕ, List, length, Copy, SymbolicStore, trees_in, sorts_in, BranchFact, AreFactsSorted, AllStand, ended_in, terms_in}
use Rattle.sm_proof.specs.Passing as plain
use Rattle.sm_check.specs.Closing.{OpensAs}
use Rattle.sm_check.proofs.JobsLemmas.{Leads}
use Rattle.sm_check.proofs.alone.closes.Given as goal

abbrev pub invariant-loop-line : goal.invariant-loop-line
invariant-loop-line l =
    (facts own : List BranchFact) (held : Copy → SymbolicStore) (splits : ℕ) →
    AllStand (sorts_in l.table) (trees_in l.table) l.path.list.items facts → AreFactsSorted (sorts_in l.table) facts →
    OpensAs (sorts_in l.table) (trees_in l.table) facts l.opening (plain.Branch held own splits) →
    Leads l.exact (sorts_in l.table) (trees_in l.table) (terms_in (trees_in l.table) l.terms) l.branch.path.list.items l.branch.due
    l.branch.waiting.items own splits (ended_in l.left) (ended_in l.bytes)

abbrev pub decreases-loop-line : goal.decreases-loop-line
decreases-loop-line l = length l.left
