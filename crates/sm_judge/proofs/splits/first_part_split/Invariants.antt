-- No fact before is split.
use Rattle.sm_judge.proofs.Imports.{List, Tree, trees_in, sorts_in, part_split, seen_in}
use Rattle.sm_judge.proofs.FirstLemmas.{GiveAsAll}
use Rattle.sm_judge.proofs.splits.first_part_split.Given as goal

abbrev pub invariant-loop-n : goal.invariant-loop-n
invariant-loop-n g l =
    (terms : List Tree) →
    let trees = trees_in l.table in
    let sorts = sorts_in l.table in
    let b = seen_in sorts trees terms l.facts (g.S.Sees.equal l.sees) (g.S.Sees.apart l.sees) in
    GiveAsAll sorts trees (part_split b) l.facts l.n
