-- The right side of each place's equation is its label.
use Rattle.sm_cc.proofs.Imports.{◌≡◌, map, ap, subst, ◌∙◌, IfOk-weaker, AreLabels, Placed}
use Rattle.sm_cc.specs.declared.log.Equation.{Equation}
use Rattle.sm_cc.proofs.LabelsLemmas.{labels_tell}
use Rattle.sm_cc.proofs.places.PlaceClasses.labels.Goals as goal

pub returns : goal.returns
returns c =
    let right = map (λ (e : Equation). e.right) in
    IfOk-weaker c.right_sides.result (λ v. v.items ≡ right c.deref.result.now) (λ v. AreLabels c.args.self.now.board v.items)
    (λ v is.
    subst (λ (p : Placed). AreLabels p.board v.items) c.self.view_is
    (labels_tell c.self.inside.inside c.self.invariant v.items (is ∙ ap right c.deref.ensures.value)))
    c.right_sides.ensures
