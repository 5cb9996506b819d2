-- A form more is the next of the list.
use Rattle.sm_exact.proofs.Imports.{◌≡◌, ◌+◌, ◌∙◌, nat_eq, Some, None, drop, sym, ap, rules, get, err_from_is_err_and, to_z-of_z, w128, values_in, better}
use mir.Val.{SFits}
use Rattle.sm_exact.proofs.ValuesLemmas.{bound_behind, bound_all, turn_more, turn_skip, turn_fails, bound_end}
use Rattle.sm_exact.proofs.values.bound_of.Goals as goal
use Rattle.sm_exact.proofs.values.bound_of.Goals.{then-is_from+in_ok-z, else-is_from}

pub loop-f-preserved : goal.loop-f-preserved
loop-f-preserved c =
    let v = values_in (get nat_eq c.args.values.now) in
    let whole = bound_behind c.args.side c.args.t v None c.args.forms.now in
    elim c.if-is_from.branch as (λ x. whole ≡ bound_behind c.args.side c.args.t v c.if-is_from.best
    (drop (c.loop-f.f-index + 1) c.args.forms.now)) [
      | then-is_from+in_ok-z w ↦
          let fits_z : SFits w128 w.in_ok-z.z = search rules in
          let fits_best : SFits w128 w.better.result = search rules in
          turn_more c.args.side c.args.t v c.loop-f.best whole c.loop-f.f-index c.args.forms.now c.f-item.result c.loop-f.invariant
          c.loop-f-test.true c.f-item.is w.in_ok-z.z c.if-is_from.best (sym c.is_from.ensures ∙ w.if-is_from.true) w.in_ok-z.ensures
          (w.best-is ∙ ap Some (to_z-of_z w128 w.better.result fits_best ∙ w.better.ensures ∙ ap (better c.args.side c.loop-f.best)
          (to_z-of_z w128 w.in_ok-z.z fits_z)))
      | else-is_from w ↦
          turn_skip c.args.side c.args.t v c.loop-f.best whole c.loop-f.f-index c.args.forms.now c.f-item.result c.loop-f.invariant
          c.loop-f-test.true c.f-item.is c.if-is_from.best (sym c.is_from.ensures ∙ w.if-is_from.false) w.best-is
    ]

pub returns-in_err-z : goal.returns-in_err-z
returns-in_err-z c =
    let v = values_in (get nat_eq c.args.values.now) in
    let whole = bound_behind c.args.side c.args.t v None c.args.forms.now in
    let p = err_from_is_err_and c.from_residual.result c.from_residual.ensures.1 in
    rw (p.1, p.2, bound_all c.args.side c.args.t v c.args.forms.now)
    (turn_fails c.args.side c.args.t v c.loop-f.best whole c.loop-f.f-index c.args.forms.now c.f-item.result c.loop-f.invariant
    c.loop-f-test.true c.f-item.is c.in_err-z.field-0.0 (sym c.is_from.ensures ∙ c.if-is_from.true) c.in_err-z.ensures)

pub returns : goal.returns
returns c =
    let v = values_in (get nat_eq c.args.values.now) in
    let fits : SFits w128 c.unwrap_or.result = search rules in
    rw (to_z-of_z w128 c.unwrap_or.result fits)
    (bound_all c.args.side c.args.t v c.args.forms.now
    ∙ bound_end c.args.side c.args.t v c.loop-f.best (bound_behind c.args.side c.args.t v None c.args.forms.now) c.loop-f.f-index
    c.args.forms.now c.unwrap_or.result c.loop-f.invariant c.loop-f-test.false c.unwrap_or.ensures)
