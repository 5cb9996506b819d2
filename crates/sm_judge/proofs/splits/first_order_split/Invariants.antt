-- No fact before is split.
use Rattle.sm_judge.proofs.Imports.{List, Tree, trees_in, sorts_in, Pairs, order_split, seen_in}
use Rattle.sm_judge.proofs.FirstLemmas.{GiveAsAll}
use Rattle.sm_judge.proofs.splits.first_order_split.Given as goal

abbrev pub invariant-loop-n : goal.invariant-loop-n
invariant-loop-n l =
    (terms : List Tree) (equal apart : Pairs) →
    let trees = trees_in l.table in
    let sorts = sorts_in l.table in
    let b = seen_in sorts trees terms l.facts equal apart in
    GiveAsAll sorts trees (order_split b) l.facts l.n
