use Rattle.sm_num.proofs.Imports.{◌≡◌, not, take, rules, sym, ap, subst, ◌∙◌, to_z-of_z, w128, AreParts, parts_without, same_atom}
use mir.Val.{SFits}
use Rattle.sm_num.proofs.KeptForms.{take_all}
use Rattle.sm_num.proofs.KeptLemmas.{filter_parts}
use Rattle.sm_num.proofs.form.LinForm.without.Goals as goal

-- the parts that are left ascend, too
pub invariant_of-result : goal.invariant_of-result
invariant_of-result c =
    let items = c.deref-part-items.result.now in
    let fits : SFits w128 c.self.inside.constant = search rules in
    let all : take c.loop-part.part-index items ≡ items = take_all c.loop-part.part-index items c.loop-part-test.false in
    let kept : AreParts 0 items = subst (AreParts 0) (sym c.deref-part-items.ensures.value) c.self.invariant.parts in
    rw (to_z-of_z w128 c.self.inside.constant fits)
    (record {
      parts = subst (AreParts 0) (sym (c.loop-part.invariant ∙ ap (parts_without same_atom c.args.t) all))
          (filter_parts (λ r. not (same_atom c.args.t r.0)) 0 items kept);
      constant = c.self.invariant.constant;
    })
