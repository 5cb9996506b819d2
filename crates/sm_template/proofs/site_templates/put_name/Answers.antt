-- The kinds of a name are those of its sort.
use Rattle.sm_template.proofs.Imports.{◌∙◌, ℕ, List, map, sym, ap, subst, OnOk, Sort, Assertion, AddsForms, shape_form, AreShapesFit}
use Rattle.sm_template.proofs.NameShapesLemmas.{name_forms, shapes_fit}
use Rattle.sm_template.proofs.site_templates.put_name.Goals as goal

pub put_shapes-requires-clause-fits : goal.put_shapes-requires-clause-fits
put_shapes-requires-clause-fits c =
    subst (AreShapesFit c.args.sort) (sym (c.deref.ensures.value ∙ c.in_ok-shapes.ensures)) (shapes_fit c.args.literals.now c.args.sort)

pub returns-clause-added : goal.returns-clause-added
returns-clause-added c =
    let name : ℕ × Sort = (c.args.x.0, c.args.sort) in
    subst
    (λ (l : List Assertion).
    OnOk c.put_shapes.result
    (AddsForms c.args.table.now c.put_shapes.new.table c.args.list.now.items c.put_shapes.new.list.items l))
    (ap (map (shape_form name)) (c.deref.ensures.value ∙ c.in_ok-shapes.ensures) ∙ name_forms c.args.literals.now name)
    c.put_shapes.ensures.added
