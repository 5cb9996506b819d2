use Rattle.sm_exact.proofs.Imports.{◌≡◌, ◌<◌, ◌+◌, ◌^◌, ℕ, pos, nat_abs, int_lt, true, false, rules, sym, subst, arith, to_z-of_z, err_from_is_err_and, w128, size_below}
use mir.Val.{SFits, to_z, of_z}
use Rattle.sm_exact.proofs.SplintersLemmas.{count_fails_first, count_fails_second, count_fails_third, count_is, numbers_below, numbers_above, few_above}
use Rattle.sm_exact.proofs.splinters.splinter_count.Goals as goal

pub returns-in_err-x : goal.returns-in_err-x
returns-in_err-x c =
    let p = err_from_is_err_and c.from_residual.result c.from_residual.ensures.1 in
    rw (p.1, p.2)
    (record { value = count_fails_first c.args.m.now c.args.b.now c.in_err-x.field-0.0 c.in_err-x.ensures; few = tt })

pub returns-in_err-y : goal.returns-in_err-y
returns-in_err-y c =
    let x = c.in_ok-x.x in
    let fits : SFits w128 x = search rules in
    let p = err_from_is_err_and c.from_residual-in_err-y.result c.from_residual-in_err-y.ensures.1 in
    rw (p.1, p.2)
    (record {
      value = count_fails_second c.args.m.now c.args.b.now x (to_z w128 (of_z w128 x)) c.in_err-y.field-0.0 c.in_ok-x.ensures
          (to_z-of_z w128 x fits) c.in_err-y.ensures;
      few = tt;
    })

pub returns-in_err-z : goal.returns-in_err-z
returns-in_err-z c =
    let x = c.in_ok-x.x in
    let y = c.in_ok-y.y in
    let fits : SFits w128 x = search rules in
    let fits_y : SFits w128 y = search rules in
    let p = err_from_is_err_and c.from_residual-in_err-z.result c.from_residual-in_err-z.ensures.1 in
    rw (p.1, p.2)
    (record {
      value = count_fails_third c.args.m.now c.args.b.now x (to_z w128 (of_z w128 x)) y (to_z w128 (of_z w128 y)) c.in_err-z.field-0.0
          c.in_ok-x.ensures (to_z-of_z w128 x fits) c.in_ok-y.ensures (to_z-of_z w128 y fits_y) c.in_err-z.ensures;
      few = tt;
    })

pub floor-last-requires : goal.floor-last-requires
floor-last-requires c = subst (λ (n : ℕ). n < 2 ^ 127) (sym c.size.ensures) (size_below c.args.m.now c.requires)

pub returns-then-last-lt0 : goal.returns-then-last-lt0
returns-then-last-lt0 c =
    let x = c.in_ok-x.x in
    let y = c.in_ok-y.y in
    let z = c.in_ok-z.z in
    let last = c.floor-last.result in
    let fits_x : SFits w128 x = search rules in
    let fits_y : SFits w128 y = search rules in
    let fits_z : SFits w128 z = search rules in
    let fits_last : SFits w128 last = search rules in
    let below = subst (λ n. int_lt n (pos 0) ≡ true) (to_z-of_z w128 last fits_last) c.if-last-lt0.true in
    record {
      value = count_is c.args.m.now c.args.b.now x (to_z w128 (of_z w128 x)) y (to_z w128 (of_z w128 y)) z (to_z w128 (of_z w128 z)) last
          c.size.result 0 c.in_ok-x.ensures (to_z-of_z w128 x fits_x) c.in_ok-y.ensures (to_z-of_z w128 y fits_y) c.in_ok-z.ensures
          (to_z-of_z w128 z fits_z) c.size.ensures c.floor-last.ensures (numbers_below last below);
      few = omega arith;
    }

pub returns : goal.returns
returns c =
    let x = c.in_ok-x.x in
    let y = c.in_ok-y.y in
    let z = c.in_ok-z.z in
    let last = c.floor-last.result in
    let fits_x : SFits w128 x = search rules in
    let fits_y : SFits w128 y = search rules in
    let fits_z : SFits w128 z = search rules in
    let fits_last : SFits w128 last = search rules in
    let above = subst (λ n. int_lt n (pos 0) ≡ false) (to_z-of_z w128 last fits_last) c.if-last-lt0.false in
    rw (to_z-of_z w128 last fits_last)
    (record {
      value = count_is c.args.m.now c.args.b.now x (to_z w128 (of_z w128 x)) y (to_z w128 (of_z w128 y)) z (to_z w128 (of_z w128 z)) last
          c.size.result (nat_abs last + 1) c.in_ok-x.ensures (to_z-of_z w128 x fits_x) c.in_ok-y.ensures (to_z-of_z w128 y fits_y)
          c.in_ok-z.ensures (to_z-of_z w128 z fits_z) c.size.ensures c.floor-last.ensures (numbers_above last above);
      few = few_above last above fits_last;
    })
