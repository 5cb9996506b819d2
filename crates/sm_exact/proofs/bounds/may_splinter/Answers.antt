use Rattle.sm_exact.proofs.Imports.{IsTrue, ℤ, rules, sym, ap, subst, ◌∙◌, to_z-of_z, w128, fits_form}
use mir.Val.{SFits, to_z}
use Rattle.sm_exact.proofs.BoundsLemmas.{none_above, none_below}
use Rattle.sm_exact.proofs.bounds.may_splinter.Goals as goal

pub returns-then-greatest_upper-ne1 : goal.returns-then-greatest_upper-ne1
returns-then-greatest_upper-ne1 c = λ narrow.
    none_below c.args.t c.args.forms.now
    (subst (λ (z : ℤ). IsTrue (fits_form z)) c.greatest_upper.ensures.value c.greatest_upper.ensures.range)
    (c.has_wide_lower.ensures narrow)

pub returns-else-greatest_upper-ne1 : goal.returns-else-greatest_upper-ne1
returns-else-greatest_upper-ne1 c = λ narrow.
    let r = c.greatest_upper.result in
    let fits : SFits w128 r = search rules in
    none_above c.args.t c.args.forms.now
    (sym c.greatest_upper.ensures.value ∙ sym (to_z-of_z w128 r fits) ∙ ap (to_z w128) c.if-greatest_upper-ne1.false)
    c.greatest_upper.ensures.numbers
