use Rattle.std.proofs.Common.{length, refl, sym, ◌∙◌, le_refl, arith}
use Rattle.sm_exact.proofs.SplintersLemmas.{skips_one, skips_end, lower_here}
use Rattle.sm_exact.proofs.splinters.find_lower.Goals as goal

pub loop-place-init : goal.loop-place-init
loop-place-init c = refl

pub loop-place-preserved : goal.loop-place-preserved
loop-place-preserved c =
    c.loop-place.invariant
    ∙ skips_one c.args.t c.loop-place.place c.args.forms.now c.index-forms-place.result c.loop-place-test.true c.index-forms-place.is
    (sym c.is_lower.ensures ∙ c.if-is_lower.false)

pub returns-then-is_lower : goal.returns-then-is_lower
returns-then-is_lower c = record {
  up_to = omega arith;
  skips = c.loop-place.invariant;
  here = λ within f is. lower_here c.args.t c.loop-place.place c.args.forms.now c.index-forms-place.result f within c.index-forms-place.is
      (sym c.is_lower.ensures ∙ c.if-is_lower.true) is;
}

pub returns : goal.returns
returns c = record {
  up_to = le_refl (length c.args.forms.now);
  skips = c.loop-place.invariant ∙ skips_end c.args.t c.loop-place.place c.args.forms.now c.loop-place-test.false;
  here = λ within f is. absurd (omega arith);
}
