use Rattle.sm_term.specs.Tables.{trees_in, sorts_in}
use Rattle.sm_euf.proofs.EquationsLemmas.{subst_of_contrary}
use Rattle.sm_euf.proofs.equations.substituted.Goals as goal

pub returns-then-same_term : goal.returns-then-same_term
returns-then-same_term c = λ facts all sorted.
    let sorts = sorts_in c.args.table.now in
    let trees = trees_in c.args.table.now in
    let one = c.in_ok-t.ensures sorts trees facts all in
    let other = c.in_ok-v.ensures sorts trees facts all in
    subst_of_contrary sorts trees facts c.args.m c.args.n (c.in_ok-t.t, c.in_ok-t.u) (c.in_ok-v.v, c.in_ok-v.w) c.same_term.result sorted
    one other c.same_term.ensures.term c.if-same_term.true
