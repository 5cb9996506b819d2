-- The copies so far and the facts after them stand for what the facts do.
use Rattle.sm_cert.proofs.Imports.{List, ◌++◌, drop, Sorts, Tree, BranchFact, AllStand}
use Rattle.sm_cert.proofs.copies.copy_branch.Given as goal

abbrev pub invariant-loop-fact : goal.invariant-loop-fact
invariant-loop-fact l =
    (sorts : Sorts) (trees : List Tree) (facts : List BranchFact) → AllStand sorts trees l.branch.list.items facts →
    AllStand sorts trees (l.list.items ++ drop l.fact-index l.fact-items) facts
