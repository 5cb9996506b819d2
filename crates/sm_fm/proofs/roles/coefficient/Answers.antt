-- The part that was found has the coefficient, and past a later atom there is none.
use Rattle.sm_fm.proofs.Imports.{pos, get_or, rules, sym, ap, subst, ◌∙◌, to_z-of_z, coefficient, AreParts, same_atom, coefficient_past}
use Rattle.std.specs.Int.{w128}
use mir.Val.{SFits}
use Rattle.sm_fm.proofs.roles.coefficient.Goals as goal
use Rattle.sm_num.proofs.KeptForms.{coefficient_at}

pub returns-then-part-t : goal.returns-then-part-t
returns-then-part-t c =
    let items = c.parts-parts.result.now in
    let kept : AreParts 0 items = subst (AreParts 0) (sym c.parts-parts.ensures.parts) c.parts-parts.ensures.kept.parts in
    sym (coefficient_past c.args.t c.loop-part.part-index items kept c.loop-part-test.true c.if-part-t.true)
    ∙ sym c.loop-part.invariant
    ∙ ap (coefficient same_atom c.args.t) c.parts-parts.ensures.parts

pub returns-then-part-t-2 : goal.returns-then-part-t-2
returns-then-part-t-2 c =
    let items = c.parts-parts.result.now in
    let kept : AreParts 0 items = subst (AreParts 0) (sym c.parts-parts.ensures.parts) c.parts-parts.ensures.kept.parts in
    let found = get_or items c.loop-part.part-index (0, pos 0) in
    let fits : SFits w128 found.1 = search rules in
    to_z-of_z w128 found.1 fits
    ∙ sym (coefficient_at c.args.t c.loop-part.part-index items kept c.loop-part-test.true c.if-part-t-2.true)
    ∙ sym c.loop-part.invariant
    ∙ ap (coefficient same_atom c.args.t) c.parts-parts.ensures.parts
