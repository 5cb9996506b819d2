use Rattle.sm_exact.proofs.Imports.{◌+◌, add-one, shadow}
use Rattle.sm_exact.proofs.ShadowsLemmas.{count_passes, sum_enters}
use Rattle.sm_exact.proofs.shadows.enter_shadow.Goals as goal

pub returns-then-count-steps : goal.returns-then-count-steps
returns-then-count-steps c = λ rest.
    count_passes c.args.steps c.args.out.items (shadow c.args.t c.args.l.now c.args.u.now) rest c.args.count c.if-count-steps.true

pub returns : goal.returns
returns c =
    sum_enters c.args.steps c.args.count (c.args.count + 1) c.args.out.items (shadow c.args.t c.args.l.now c.args.u.now)
    c.shadow-sum.result c.enter_sum.result c.if-count-steps.false (add-one c.args.count) c.shadow-sum.ensures c.enter_sum.ensures
