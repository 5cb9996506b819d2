-- The copies so far and the facts after them stand for what the facts do.
use Rattle.sm_check.proofs.Imports.{List, ◌++◌, drop, Sorts, Tree, BranchFact, AllStand}
use Rattle.sm_check.proofs.openings.copy_facts.Given as goal

abbrev pub invariant-loop-fact : goal.invariant-loop-fact
invariant-loop-fact l =
    (sorts : Sorts) (trees : List Tree) (ks : List BranchFact) → AllStand sorts trees l.facts ks →
    AllStand sorts trees (l.list.items ++ drop l.fact-index l.facts) ks
