use Rattle.sm_exact.proofs.Imports.{◌≡◌, int_lt, if◌then◌else◌, IsTrue, refl, subst, rules, arith, take_all, All, to_z-of_z, ints, w128, fits_form, at}
use mir.Val.{SFits, to_z}
use Rattle.sm_exact.proofs.BoundsLemmas.{top_more, top_end, numbers_more}
use Rattle.sm_exact.proofs.bounds.greatest_upper.Goals as goal

pub loop-f-init : goal.loop-f-init
loop-f-init c = record {
  top = record { value = refl; range = refl; least = omega (arith, ints) };
  numbers = search rules;
}

pub loop-f-preserved : goal.loop-f-preserved
loop-f-preserved c =
    let r = c.greater-greatest.result in
    let z = c.coefficient.result in
    let fits_r : SFits w128 r = search rules in
    let fits_z : SFits w128 z = search rules in
    let y = to_z w128 c.loop-f.greatest-bits in
    let step : r ≡ (if int_lt y z then z else y) = simp to_z-of_z at c.greater-greatest.ensures in
    rw (to_z-of_z w128 r fits_r)
    (record {
      top = top_more c.args.t c.loop-f.f-index c.args.forms.now c.f-item.result y z r c.loop-f-test.true c.f-item.is
          c.coefficient.ensures.value c.coefficient.ensures.range step c.loop-f.invariant.top;
      numbers = numbers_more c.args.t c.loop-f.f-index c.args.forms.now c.f-item.result z c.loop-f-test.true c.f-item.is
          c.coefficient.ensures.value c.coefficient.ensures.range c.loop-f.invariant.numbers;
    })

pub returns : goal.returns
returns c = record {
  value = top_end c.args.t c.loop-f.f-index c.args.forms.now (to_z w128 c.loop-f.greatest-bits) c.loop-f.invariant.top
      c.loop-f-test.false;
  range = c.loop-f.invariant.top.range;
  numbers = subst (All (λ f. IsTrue (fits_form (at c.args.t f)))) (take_all c.loop-f.f-index c.args.forms.now c.loop-f-test.false)
      c.loop-f.invariant.numbers;
}
