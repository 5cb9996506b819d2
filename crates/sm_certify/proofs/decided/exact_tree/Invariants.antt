-- What is written decides the branch with the sources that are left.
use Rattle.sm_certify.proofs.Imports.{drop, Decides, branch_of}
use Rattle.sm_certify.proofs.decided.exact_tree.Given as goal

abbrev pub invariant-loop-source : goal.invariant-loop-source
invariant-loop-source l = Decides (branch_of l.table l.facts) l.draft.lines.items (drop l.source-index l.sources) l.count
