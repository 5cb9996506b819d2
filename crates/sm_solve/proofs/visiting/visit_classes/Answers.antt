use Rattle.sm_solve.proofs.Imports.{◌≡◌, true, false, is_some, Option, length, IfOk, sym, ap, subst, ◌∙◌, trees_in, sorts_in, AreBefore, are_equal, ClassesValue, setting_of, branch_of, is_closed, AreLabels, all_numbered, assertions_in, Walked, TellsVisit, whole_before}
use Rattle.sm_judge.specs.declared.closing.Closing.{Closing}
use Rattle.sm_solve.proofs.BranchLabelsLemmas.{labels_of_branch}
use Rattle.sm_solve.proofs.WalkingLemmas.{closed_told, open_told}
use Rattle.sm_solve.proofs.visiting.visit_classes.Goals as goal

pub labels-requires : goal.labels-requires
labels-requires c =
    let terms = c.args.cx.now.terms.now.list.items in
    subst (λ (v : ClassesValue). AreBefore (length (trees_in v.table)) v.terms) (sym c.requires.classes)
    (whole_before (trees_in c.args.cx.now.table.now) terms c.requires.whole)

pub closed_by-requires-clause-labels : goal.closed_by-requires-clause-labels
closed_by-requires-clause-labels c =
    let equal = are_equal (setting_of c.args.classes.now) in
    subst (AreLabels (trees_in c.args.cx.now.table.now) equal) (sym c.deref.ensures.value)
    (labels_of_branch c.args.cx.now.table.now c.args.cx.now.terms.now.list.items c.args.facts.now c.requires.whole c.args.classes.now c.requires.classes
    c.in_ok-labels.labels.items c.in_ok-labels.ensures)

pub visit_forms-requires-clause-labels : goal.visit_forms-requires-clause-labels
visit_forms-requires-clause-labels c =
    let equal = are_equal (setting_of c.args.classes.now) in
    subst (AreLabels (trees_in c.args.cx.now.table.now) equal) (sym c.deref-in-None.ensures.value)
    (labels_of_branch c.args.cx.now.table.now c.args.cx.now.terms.now.list.items c.args.facts.now c.requires.whole c.args.classes.now c.requires.classes
    c.in_ok-labels.labels.items c.in_ok-labels.ensures)

pub returns-in-Some-clause-tells : goal.returns-in-Some-clause-tells
returns-in-Some-clause-tells c = λ go.
    let table = c.args.cx.now.table.now in
    let b = branch_of table c.args.facts.now in
    let closed : true ≡ is_closed b =
    ap (λ (o : Option Closing). is_some o) (sym c.in-Some.is) ∙ c.in_ok-why.ensures.closed ∙ ap is_closed c.requires.seen in
    closed_told go c.args.cx.now.reach c.args.count b closed

pub returns-clause-tells : goal.returns-clause-tells
returns-clause-tells c = λ go.
    let table = c.args.cx.now.table.now in
    let sorts = sorts_in table in
    let trees = trees_in table in
    let all = assertions_in sorts trees (all_numbered c.args.facts.now) in
    let b = branch_of table c.args.facts.now in
    let open_still : false ≡ is_closed b =
    ap (λ (o : Option Closing). is_some o) (sym c.in-None.is) ∙ c.in_ok-why.ensures.closed ∙ ap is_closed c.requires.seen in
    subst (λ (w : Walked). IfOk c.visit_forms.result (λ v. TellsVisit sorts trees all go v w))
    (sym (open_told go c.args.cx.now.reach c.args.count b open_still)) (c.visit_forms.ensures.tells go)
