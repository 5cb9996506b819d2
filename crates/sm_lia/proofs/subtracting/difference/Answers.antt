-- The sum of the forms, of which one is taken away.
use Rattle.sm_lia.proofs.Imports.{pos, negsuc, combined, trees_in, tree_at, linear_of, difference, combined_stands, one_place}
use Rattle.sm_lia.proofs.ComputingLemmas.{returned_for}
use Rattle.sm_lia.proofs.subtracting.difference.Goals as goal

pub returns : goal.returns
returns c =
    let trees = trees_in c.args.table.now in
    let t = tree_at trees c.args.t.0 in
    let u = tree_at trees c.args.u.0 in
    let kind = c.args.kind in
    returned_for trees (combined c.in_ok-f.f (pos 1) c.in_ok-g.g (negsuc 0) kind) (difference t u kind) c.combine.result
    (combined_stands trees (one_place trees c.len-count.ensures.apart) c.in_ok-f.f c.in_ok-g.g
    (linear_of t) (linear_of u) (pos 1) (negsuc 0)
    kind c.in_ok-f.ensures c.in_ok-g.ensures)
    c.combine.ensures
