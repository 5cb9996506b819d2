-- The sum is counted, unless the count would pass its limit.
use Rattle.sm_num.specs.Eliminating.{eliminated}
use Rattle.sm_exact.proofs.EntryLemmas.{count_passed, sum_enters}
use Rattle.sm_exact.proofs.equation.enter_eliminated.Goals as goal

pub returns-then-count-steps : goal.returns-then-count-steps
returns-then-count-steps c = λ rest.
    count_passed c.args.steps c.args.count c.args.out.items (eliminated c.args.f.now c.args.e.now c.args.t) rest c.if-count-steps.true

pub returns : goal.returns
returns c =
    sum_enters c.args.steps c.args.count c.args.out.items (eliminated c.args.f.now c.args.e.now c.args.t) c.elim-sum.result
    c.enter_sum.result c.if-count-steps.false c.elim-sum.ensures c.enter_sum.ensures
