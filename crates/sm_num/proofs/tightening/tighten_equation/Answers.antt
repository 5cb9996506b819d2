-- The divisor of the parts divides each, so the quotients ascend and keep to the range.
use Rattle.sm_num.proofs.Imports.{◌≡◌, ◌<◌, ◌^◌, ℕ, ℤ, IsTrue, rules, sym, ap, subst, ◌∙◌, to_z-of_z, w128, ◌∣◌, fits_form, Linear, divisor_of_parts, dvd_refl}
use mir.Val.{SFits}
use Rattle.sm_num.proofs.KeptForms.{divided_items, divisor_below}
use Rattle.sm_num.proofs.DivisionLemmas.{divisor_divides}
use Rattle.sm_num.proofs.ResultsReduced.{floor_fits}
use Rattle.sm_num.proofs.tightening.tighten_equation.Goals as goal

pub divide_parts-requires : goal.divide_parts-requires
divide_parts-requires c =
    let ps = c.f.inside.parts.items in
    let same : c.args.d ≡ divisor_of_parts ps = c.requires.divisor ∙ ap (λ (f : Linear ℕ). divisor_of_parts f.parts) (sym c.f.view_is) in
    subst (λ (n : ℕ). n < 2 ^ 127) (sym same) (divisor_below 0 ps c.f.invariant.parts)

pub floor-requires : goal.floor-requires
floor-requires c =
    let ps = c.f.inside.parts.items in
    let same : c.args.d ≡ divisor_of_parts ps = c.requires.divisor ∙ ap (λ (f : Linear ℕ). divisor_of_parts f.parts) (sym c.f.view_is) in
    subst (λ (n : ℕ). n < 2 ^ 127) (sym same) (divisor_below 0 ps c.f.invariant.parts)

pub invariant_of-result : goal.invariant_of-result
invariant_of-result c =
    let ps = c.f.inside.parts.items in
    let same : c.args.d ≡ divisor_of_parts ps = c.requires.divisor ∙ ap (λ (f : Linear ℕ). divisor_of_parts f.parts) (sym c.f.view_is) in
    let fits : SFits w128 c.floor.result = search rules in
    let all = divisor_divides c.args.d ps (subst (λ (n : ℕ). n ∣ divisor_of_parts ps) (sym same) (dvd_refl (divisor_of_parts ps))) in
    rw (to_z-of_z w128 c.floor.result fits)
    (record {
      parts = divided_items c.args.d c.in_ok-divide_parts.field-0.items c.deref.result.now ps c.in_ok-divide_parts.ensures
          c.deref.ensures.value all c.f.invariant.parts;
      constant = subst (λ (y : ℤ). IsTrue (fits_form y)) (sym c.floor.ensures)
          (floor_fits c.f.inside.constant c.args.d c.f.invariant.constant);
    })
