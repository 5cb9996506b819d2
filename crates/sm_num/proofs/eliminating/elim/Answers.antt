-- Where the sum leaves the range, so does what is divided.
use Rattle.sm_num.proofs.Imports.{ℕ, rules, ap, to_z-of_z, err_from_is_err_and, w128, Linear}
use mir.Val.{SFits}
use Rattle.sm_num.proofs.Eliminated.{eliminated_is, elim_fails}
use Rattle.sm_num.proofs.eliminating.elim.Goals as goal

pub returns-in_err-h : goal.returns-in_err-h
returns-in_err-h c =
    let p = err_from_is_err_and c.from_residual-in_err-h.result c.from_residual-in_err-h.ensures.1 in
    let fits_a : SFits w128 c.coefficient.result = search rules in
    let fits_b : SFits w128 c.coefficient-2.result = search rules in
    let m = simp to_z-of_z at c.find_multipliers-m.ensures in
    let fits_p : SFits w128 c.find_multipliers-m.result.0 = search rules in
    let fits_q : SFits w128 c.find_multipliers-m.result.1 = search rules in
    let fails = simp to_z-of_z at c.in_err-h.ensures in
    let same = eliminated_is c.args.f.now c.args.g.now c.in_ok-f_rest.f_rest c.in_ok-g_rest.g_rest c.args.t c.coefficient.result
    c.coefficient-2.result
    c.find_multipliers-m.result c.f.inside.kind c.g.inside.kind c.sum_kind-kind.result c.in_ok-f_rest.ensures c.in_ok-g_rest.ensures
    c.coefficient.ensures.value
    c.coefficient-2.ensures.value (ap (λ (f : Linear ℕ). f.kind) c.f.view_is) (ap (λ (f : Linear ℕ). f.kind) c.g.view_is) m
    c.sum_kind-kind.ensures in
    rw (p.1, p.2) (elim_fails _ _ c.in_err-h.field-0.0 same fails)
