-- An element is read of an array.
use Rattle.sm_judge.proofs.Imports.{◌≡◌, subst, Read, trees_in, sorts_in, codes_in, tree_in, tree_at, Term, seen_in, split_in}
use Rattle.sm_judge.proofs.SplitLemmas.{index_of}
use Rattle.sm_judge.proofs.holding.index_split.Goals as goal

pub returns-in-Read-clause-split : goal.returns-in-Read-clause-split
returns-in-Read-clause-split g c = λ terms facts.
    let table = c.args.table.now in
    let trees = trees_in table in
    let t = tree_at trees c.args.t.0 in
    let b = seen_in (sorts_in table) trees terms facts (g.S.Sees.equal c.args.sees.now) (g.S.Sees.apart c.args.sees.now) in
    let read : Read (tree_at trees c.in-Read.a.0) (tree_at trees c.in-Read.j.0) ≡ t =
    subst (λ (v : Term). tree_in (codes_in table) trees v ≡ t) c.in-Read.is c.get.ensures.tree in
    index_of b (split_in (sorts_in table) trees c.split_under.result) (Read (tree_at trees c.in-Read.a.0) (tree_at trees c.in-Read.j.0)) t
    (c.split_under.ensures.split terms facts) read
