use Rattle.sm_exact.proofs.Imports.{ℤ, pos, neg_ℤ, ◌-ℤ◌, rules, refl, sym, subst, ◌∙◌, to_z-of_z, err_from_is_err_and, w128, Mul, Returns, neg_fits}
use mir.Val.{SFits, to_z, of_z}
use Rattle.sm_exact.proofs.BoundsLemmas.{less_one_fits, passed, zero_less_fits, passed_turned, passed_less}
use Rattle.sm_exact.proofs.ShadowsLemmas.{shadow_fails, product_fails, shadow_ends, computed_in_range}
use Rattle.sm_exact.proofs.shadows.shadow.Goals as goal

pub overflow_sub-b : goal.overflow_sub-b
overflow_sub-b c = zero_less_fits c.coefficient-b.result c.coefficient-b.ensures.range

pub overflow_sub-a : goal.overflow_sub-a
overflow_sub-a c =
    subst (λ (x : ℤ). SFits w128 (x -ℤ pos 1)) (sym (passed c.coefficient-a.result c.coefficient-a.ensures.range))
    (less_one_fits c.coefficient-a.result c.coefficient-a.ensures.range)

pub overflow_sub-b-2 : goal.overflow_sub-b-2
overflow_sub-b-2 c =
    let b = c.coefficient-b.result in
    subst (λ (x : ℤ). SFits w128 (x -ℤ pos 1)) (sym (passed_turned b b c.coefficient-b.ensures.range refl))
    (less_one_fits (neg_ℤ b) (neg_fits b c.coefficient-b.ensures.range))

pub returns-in_err-h : goal.returns-in_err-h
returns-in_err-h c =
    let a = c.coefficient-a.result in
    let b = c.coefficient-b.result in
    let p = err_from_is_err_and c.from_residual.result c.from_residual.ensures.1 in
    rw (p.1, p.2)
    (shadow_fails c.args.t c.args.l.now c.args.u.now (to_z w128 (of_z w128 a)) (to_z w128 (of_z w128 (pos 0 -ℤ to_z w128 (of_z w128 b))))
    c.in_err-h.field-0.0 (passed a c.coefficient-a.ensures.range ∙ c.coefficient-a.ensures.value)
    (passed_turned b _ c.coefficient-b.ensures.range c.coefficient-b.ensures.value) c.in_err-h.ensures)

pub returns-in_err-y : goal.returns-in_err-y
returns-in_err-y c =
    let a = c.coefficient-a.result in
    let b = c.coefficient-b.result in
    let above = to_z w128 (of_z w128 a) in
    let below = to_z w128 (of_z w128 (pos 0 -ℤ to_z w128 (of_z w128 b))) in
    let p = err_from_is_err_and c.from_residual-in_err-y.result c.from_residual-in_err-y.ensures.1 in
    rw (p.1, p.2)
    (product_fails c.args.t c.args.l.now c.args.u.now c.in_ok-h.h above below (to_z w128 (of_z w128 (above -ℤ pos 1)))
    (to_z w128 (of_z w128 (below -ℤ pos 1))) c.in_err-y.field-0.0 (passed a c.coefficient-a.ensures.range ∙ c.coefficient-a.ensures.value)
    (passed_turned b _ c.coefficient-b.ensures.range c.coefficient-b.ensures.value)
    (passed_less above a c.coefficient-a.ensures.range (passed a c.coefficient-a.ensures.range))
    (passed_less below (neg_ℤ b) (neg_fits b c.coefficient-b.ensures.range) (passed_turned b b c.coefficient-b.ensures.range refl))
    c.in_ok-h.ensures c.in_err-y.ensures)

pub number-requires : goal.number-requires
number-requires c =
    let above = to_z w128 (of_z w128 c.coefficient-a.result) in
    let below = to_z w128 (of_z w128 (pos 0 -ℤ to_z w128 (of_z w128 c.coefficient-b.result))) in
    let y = c.in_ok-y.y in
    let fits : SFits w128 y = search rules in
    rw (to_z-of_z w128 y fits)
    (computed_in_range Mul (to_z w128 (of_z w128 (above -ℤ pos 1))) (to_z w128 (of_z w128 (below -ℤ pos 1))) y c.in_ok-y.ensures)

pub returns-in_err-number : goal.returns-in_err-number
returns-in_err-number c =
    let p = err_from_is_err_and c.from_residual-in_err-number.result c.from_residual-in_err-number.ensures.1 in
    rw (p.1, p.2, c.in_err-number.ensures.err) tt

pub returns : goal.returns
returns c =
    let a = c.coefficient-a.result in
    let b = c.coefficient-b.result in
    let above = to_z w128 (of_z w128 a) in
    let below = to_z w128 (of_z w128 (pos 0 -ℤ to_z w128 (of_z w128 b))) in
    let y = c.in_ok-y.y in
    let fits : SFits w128 y = search rules in
    subst (λ o. Returns o c.combine-3.result)
    (sym (shadow_ends c.args.t c.args.l.now c.args.u.now c.in_ok-h.h c.in_ok-number.field-0 above below
    (to_z w128 (of_z w128 (above -ℤ pos 1)))
    (to_z w128 (of_z w128 (below -ℤ pos 1))) y (to_z w128 (of_z w128 y))
    (passed a c.coefficient-a.ensures.range ∙ c.coefficient-a.ensures.value)
    (passed_turned b _ c.coefficient-b.ensures.range c.coefficient-b.ensures.value)
    (passed_less above a c.coefficient-a.ensures.range (passed a c.coefficient-a.ensures.range))
    (passed_less below (neg_ℤ b) (neg_fits b c.coefficient-b.ensures.range) (passed_turned b b c.coefficient-b.ensures.range refl))
    c.in_ok-h.ensures c.in_ok-y.ensures c.in_ok-number.ensures.ok (to_z-of_z w128 y fits) c.parts-lower.ensures.kept
    c.parts-upper.ensures.kept))
    c.combine-3.ensures
