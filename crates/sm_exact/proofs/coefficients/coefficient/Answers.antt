-- The part that was found has the coefficient, and past a later atom there is none.
use Rattle.sm_exact.proofs.Imports.{IsTrue, pos, get_or, rules, sym, ap, subst, ◌∙◌, to_z-of_z, w128, fits_form, coefficient, AreParts, same_atom, coefficient_at, coefficient_past}
use mir.Val.{SFits}
use Rattle.sm_exact.proofs.CoefficientLemmas.{part_fits}
use Rattle.sm_exact.proofs.coefficients.coefficient.Goals as goal

pub returns-then-part-t-clause-value : goal.returns-then-part-t-clause-value
returns-then-part-t-clause-value c =
    let items = c.parts-parts.result.now in
    let kept : AreParts 0 items = subst (AreParts 0) (sym c.parts-parts.ensures.parts) c.parts-parts.ensures.kept.parts in
    sym (coefficient_past c.args.t c.loop-part.part-index items kept c.loop-part-test.true c.if-part-t.true)
    ∙ sym c.loop-part.invariant
    ∙ ap (coefficient same_atom c.args.t) c.parts-parts.ensures.parts

pub returns-then-part-t-2-clause-value : goal.returns-then-part-t-2-clause-value
returns-then-part-t-2-clause-value c =
    let items = c.parts-parts.result.now in
    let kept : AreParts 0 items = subst (AreParts 0) (sym c.parts-parts.ensures.parts) c.parts-parts.ensures.kept.parts in
    let found = get_or items c.loop-part.part-index (0, pos 0) in
    let fits : SFits w128 found.1 = search rules in
    to_z-of_z w128 found.1 fits
    ∙ sym (coefficient_at c.args.t c.loop-part.part-index items kept c.loop-part-test.true c.if-part-t-2.true)
    ∙ sym c.loop-part.invariant
    ∙ ap (coefficient same_atom c.args.t) c.parts-parts.ensures.parts

pub returns-then-part-t-2-clause-range : goal.returns-then-part-t-2-clause-range
returns-then-part-t-2-clause-range c =
    let items = c.parts-parts.result.now in
    let kept : AreParts 0 items = subst (AreParts 0) (sym c.parts-parts.ensures.parts) c.parts-parts.ensures.kept.parts in
    let found = get_or items c.loop-part.part-index (0, pos 0) in
    let fits : SFits w128 found.1 = search rules in
    subst (λ z. IsTrue (fits_form z)) (sym (to_z-of_z w128 found.1 fits))
    (part_fits c.loop-part.part-index items kept c.loop-part-test.true)
