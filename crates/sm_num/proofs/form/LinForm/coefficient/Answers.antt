use Rattle.sm_num.proofs.Imports.{ℕ, pos, get_or, rules, sym, ap, subst, ◌∙◌, to_z-of_z, w128, Linear, coefficient, AreParts, same_atom}
use mir.Val.{SFits}
use Rattle.sm_num.proofs.KeptForms.{coefficient_at, coefficient_fits}
use Rattle.sm_num.proofs.form.LinForm.coefficient.Goals as goal

-- the part that was found has the coefficient
pub returns-then-part-t-clause-value : goal.returns-then-part-t-clause-value
returns-then-part-t-clause-value c =
    let items = c.deref-part-items.result.now in
    let kept : AreParts 0 items = subst (AreParts 0) (sym c.deref-part-items.ensures.value) c.self.invariant.parts in
    let found = get_or items c.loop-part.part-index (0, pos 0) in
    let fits : SFits w128 found.1 = search rules in
    to_z-of_z w128 found.1 fits ∙ sym (coefficient_at c.args.t c.loop-part.part-index items kept c.loop-part-test.true c.if-part-t.true) ∙
    sym c.loop-part.invariant ∙ ap (coefficient same_atom c.args.t) c.deref-part-items.ensures.value ∙
    ap (λ (f : Linear ℕ). coefficient same_atom c.args.t f.parts) c.self.view_is

-- the coefficient of the part that was found is in the range
pub returns-then-part-t-clause-range : goal.returns-then-part-t-clause-range
returns-then-part-t-clause-range c =
    let items = c.deref-part-items.result.now in
    let kept : AreParts 0 items = subst (AreParts 0) (sym c.deref-part-items.ensures.value) c.self.invariant.parts in
    let found = get_or items c.loop-part.part-index (0, pos 0) in
    let fits : SFits w128 found.1 = search rules in
    let here = coefficient_at c.args.t c.loop-part.part-index items kept c.loop-part-test.true c.if-part-t.true in
    rw (to_z-of_z w128 found.1 fits, ← here, ← c.loop-part.invariant) (coefficient_fits c.args.t 0 items kept)
