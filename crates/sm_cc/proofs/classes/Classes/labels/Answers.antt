-- By the labels of places.
use Rattle.sm_cc.proofs.Imports.{◌≡◌, ℕ, List, length, map, ap, sym, subst, ◌∙◌, IfOk-weaker, trees_in, AreBefore, TermId, AreTermLabels, place_at, ClassesValue}
use Rattle.sm_cc.specs.LabelsAt.{label_at}
use Rattle.sm_cc.proofs.LabelsLemmas.{term_labels_tell}
use Rattle.sm_cc.proofs.classes.Classes.labels.Goals as goal

pub returns : goal.returns
returns c =
    let inside = c.self.inside in
    let v : ClassesValue = record { table = inside.table.now; terms = inside.terms.now; given = inside.given.items } in
    let labels = c.in_ok-labels.labels.items in
    let all = λ (ls : List ℕ). map (λ (t : TermId). label_at ls (place_at inside.positions t.0)) inside.terms.now in
    let before = subst (λ (w : ClassesValue). AreBefore (length (trees_in w.table)) w.terms) (sym c.self.view_is) c.requires in
    IfOk-weaker c.labels_of.result (λ l. l.items ≡ all c.deref.result.now) (λ l. AreTermLabels c.args.self.now l.items)
    (λ l is.
    subst (λ (w : ClassesValue). AreTermLabels w l.items) c.self.view_is
    (term_labels_tell v inside.positions inside.places c.self.invariant before labels l.items c.in_ok-labels.ensures
    (is ∙ ap all c.deref.ensures.value)))
    c.labels_of.ensures
