-- One template more.
use Rattle.sm_template.proofs.Imports.{◌≡◌, ◌∙◌, Some, map, refl, ap, subst, take_all, Sorts, sorts_in, grows-not, grows-twice, AddsForms, shape_form}
use Rattle.sm_template.proofs.AddedLemmas.{added_none}
use Rattle.sm_template.proofs.TemplatesMade.{fit_at, shape_added}
use Rattle.sm_template.proofs.site_templates.put_shapes.Goals as goal

pub loop-shape-init : goal.loop-shape-init
loop-shape-init c =
    let v = c.args.table.now in
    record { grows = grows-not v v refl; added = added_none v c.args.list.now.items }

pub shaped-requires-clause-declared : goal.shaped-requires-clause-declared
shaped-requires-clause-declared c =
    ap (λ (f : Sorts). f c.args.x.0) c.loop-shape.invariant.grows.sorts ∙ c.requires.declared

pub shaped-requires-clause-fits : goal.shaped-requires-clause-fits
shaped-requires-clause-fits c =
    fit_at c.args.sort c.args.shapes.now c.loop-shape.shape-index _ c.requires.fits c.loop-shape-test.true

pub loop-shape-preserved : goal.loop-shape-preserved
loop-shape-preserved c =
    let u = c.args.table.now in
    let v = c.loop-shape.table in
    let w = c.shaped.new.table in
    let old = c.loop-shape.invariant in
    let x = c.args.x.0 in
    let sort = c.args.sort in
    let known : sorts_in w x ≡ Some sort =
    ap (λ (f : Sorts). f x) (c.shaped.ensures.grows.sorts ∙ old.grows.sorts) ∙ c.requires.declared in
    record {
      grows = grows-twice u v w old.grows c.shaped.ensures.grows;
      added = shape_added u v w x sort c.args.shapes.now c.loop-shape.shape-index _ c.args.list.now.items c.loop-shape.list.items _
          c.in_ok-shaped.field-0 c.shaped.ensures.grows known c.requires.fits c.loop-shape-test.true c.in_ok-shaped.ensures.made
          c.in_ok-push.ensures.items old.added;
    }

pub returns-clause-added : goal.returns-clause-added
returns-clause-added c =
    let form = shape_form (c.args.x.0, c.args.sort) in
    subst (AddsForms c.args.table.now c.loop-shape.table c.args.list.now.items c.loop-shape.list.items)
    (ap (map form) (take_all c.loop-shape.shape-index c.args.shapes.now c.loop-shape-test.false))
    c.loop-shape.invariant.added
