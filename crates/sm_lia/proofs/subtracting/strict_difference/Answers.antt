-- 1 more of the difference.
use Rattle.sm_lia.proofs.Imports.{ℕ, Result, subst, NumError, Linear, trees_in, tree_at, difference, ReturnsFor}
use Rattle.sm_num.specs.declared.kind.Kind.TheVariants.{Le}
use Rattle.sm_lia.proofs.ComputingLemmas.{then_one_more}
use Rattle.sm_lia.proofs.subtracting.strict_difference.Goals as goal

pub returns : goal.returns
returns c =
    let trees = trees_in c.args.table.now in
    let computed = difference (tree_at trees c.args.t.0) (tree_at trees c.args.u.0) Le in
    then_one_more trees computed c.in_ok-f.f c.one_more.result
    (subst (λ (r : Result (Linear ℕ) NumError). ReturnsFor trees computed r) c.in_ok-f.was c.difference.ensures)
    c.one_more.ensures
