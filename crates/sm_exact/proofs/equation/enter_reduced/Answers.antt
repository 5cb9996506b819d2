-- The sum is counted, unless the count would pass its limit.
use Rattle.sm_exact.proofs.Imports.{◌≡◌, ℤ, pos, rules, subst, ◌∙◌, ℕ, to_z-of_z, w128, Outcome, combined, Returns, Linear, at}
use mir.Val.{SFits}
use Rattle.sm_exact.proofs.EntryLemmas.{count_passed, sum_enters}
use Rattle.sm_exact.proofs.equation.enter_reduced.Goals as goal

pub returns-then-count-steps : goal.returns-then-count-steps
returns-then-count-steps c = λ rest.
    count_passed c.args.steps c.args.count c.args.out.items
    (combined c.args.f.now (pos 1) c.args.d.now (at c.args.t c.args.f.now) c.args.f.now.kind) rest c.if-count-steps.true

pub returns : goal.returns
returns c =
    let fits : SFits w128 c.coefficient.result = search rules in
    let f = c.args.f.now in
    let same = to_z-of_z w128 c.coefficient.result fits ∙ c.coefficient.ensures.value in
    sum_enters c.args.steps c.args.count c.args.out.items (combined f (pos 1) c.args.d.now (at c.args.t f) f.kind) c.combine-sum.result
    c.enter_sum.result c.if-count-steps.false
    (subst (λ (o : Outcome (Linear ℕ)). Returns o c.combine-sum.result)
    (λ i. combined f (pos 1) c.args.d.now (same i) (c.kind.ensures i)) c.combine-sum.ensures)
    c.enter_sum.ensures
