-- The divisor of all numbers divides each, so the quotients ascend and keep to the range.
use Rattle.sm_num.proofs.Imports.{◌≡◌, ◌<◌, ◌^◌, ℕ, ℤ, nat_abs, IsTrue, rules, sym, ap, subst, ◌∙◌, to_z-of_z, w128, ◌∣◌, fits_form, gcd, divisor_of_parts}
use mir.Val.{SFits}
use Rattle.sm_num.proofs.KeptForms.{divided_items, divisor_of_all_below}
use Rattle.sm_num.proofs.DivisionLemmas.{gcd_is, divisor_divides}
use Rattle.sm_num.proofs.ResultsReduced.{floor_fits}
use Rattle.sm_num.proofs.eliminating.divide.Goals as goal

pub divide_parts-requires : goal.divide_parts-requires
divide_parts-requires c =
    let ps = c.f.inside.parts.items in
    let z = c.f.inside.constant in
    let same : c.common_divisor-d.result ≡ gcd (nat_abs z) (divisor_of_parts ps) =
    c.common_divisor-d.ensures ∙ ap (λ (n : ℕ). gcd n c.parts_divisor.result) c.size.ensures ∙
    ap (gcd (nat_abs z)) (c.parts_divisor.ensures ∙ ap divisor_of_parts c.deref.ensures.value) in
    subst (λ (n : ℕ). n < 2 ^ 127) (sym same) (divisor_of_all_below z ps c.f.invariant.constant c.f.invariant.parts)

pub floor-requires : goal.floor-requires
floor-requires c =
    let ps = c.f.inside.parts.items in
    let z = c.f.inside.constant in
    let same : c.common_divisor-d.result ≡ gcd (nat_abs z) (divisor_of_parts ps) =
    c.common_divisor-d.ensures ∙ ap (λ (n : ℕ). gcd n c.parts_divisor.result) c.size.ensures ∙
    ap (gcd (nat_abs z)) (c.parts_divisor.ensures ∙ ap divisor_of_parts c.deref.ensures.value) in
    subst (λ (n : ℕ). n < 2 ^ 127) (sym same) (divisor_of_all_below z ps c.f.invariant.constant c.f.invariant.parts)

pub invariant_of-result : goal.invariant_of-result
invariant_of-result c =
    let ps = c.f.inside.parts.items in
    let z = c.f.inside.constant in
    let same : c.common_divisor-d.result ≡ gcd (nat_abs z) (divisor_of_parts ps) =
    c.common_divisor-d.ensures ∙ ap (λ (n : ℕ). gcd n c.parts_divisor.result) c.size.ensures ∙
    ap (gcd (nat_abs z)) (c.parts_divisor.ensures ∙ ap divisor_of_parts c.deref.ensures.value) in
    let fits : SFits w128 c.floor.result = search rules in
    let all = divisor_divides c.common_divisor-d.result ps (subst (λ (n : ℕ). n ∣ divisor_of_parts ps) (sym same)
    (gcd_is (nat_abs z) (divisor_of_parts ps)).1) in
    rw (to_z-of_z w128 c.floor.result fits)
    (record {
      parts = divided_items c.common_divisor-d.result c.in_ok-divide_parts.field-0.items c.deref-2.result.now ps
          c.in_ok-divide_parts.ensures c.deref-2.ensures.value all c.f.invariant.parts;
      constant = subst (λ (y : ℤ). IsTrue (fits_form y)) (sym c.floor.ensures)
          (floor_fits z c.common_divisor-d.result c.f.invariant.constant);
    })
