-- No term before is split.
use Rattle.sm_judge.proofs.Imports.{◌≡◌, List, drop, Formula, trees_in, sorts_in, first_of, index_split, seen_in}
use Rattle.sm_judge.proofs.splits.first_index_split.Given as goal

abbrev pub invariant-loop-n : goal.invariant-loop-n
invariant-loop-n g l =
    (facts : List Formula) →
    let trees = trees_in l.table in
    let b = seen_in (sorts_in l.table) trees trees facts (g.S.Sees.equal l.sees) (g.S.Sees.apart l.sees) in
    first_of (index_split b) (drop l.n trees) ≡ first_of (index_split b) trees
