use Rattle.sm_exact.proofs.Imports.{◌+◌, add-one, arith, ◌∙◌, splinter}
use Rattle.sm_exact.proofs.SplintersLemmas.{splinter_passes, splinter_enters}
use Rattle.sm_exact.proofs.splinters.try_splinter.Goals as goal

pub returns-then-count-steps : goal.returns-then-count-steps
returns-then-count-steps c =
    splinter_passes c.args.steps c.args.tried.now.forms.items (splinter c.args.tried.now.bound c.args.tried.now.next) c.args.count
    c.if-count-steps.true

pub splinter-sum-requires : goal.splinter-sum-requires
splinter-sum-requires c = omega (arith, c.args.tried.now.few)

pub returns : goal.returns
returns c =
    splinter_enters c.args.steps c.args.count (c.args.count + 1) c.args.tried.now.forms.items c.in_ok-out.out.items
    (splinter c.args.tried.now.bound c.args.tried.now.next) c.splinter-sum.result c.enter_sum.result
    (c.in_ok-out.ensures ∙ c.deref.ensures.value) c.if-count-steps.false (add-one c.args.count) c.splinter-sum.ensures c.enter_sum.ensures
