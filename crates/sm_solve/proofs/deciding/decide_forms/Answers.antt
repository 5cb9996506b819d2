use Rattle.sm_solve.proofs.Imports.{ℕ, IfOk, List, length, sym, subst, Outcome, Linear, trees_in, sorts_in, AreBefore, are_apart, are_equal, ClassesValue, setting_of, branch_of, whole_before, forms_of, Seen, AreLabels, GivesForms, by_decision}
use Rattle.sm_solve.specs.Deciding.{TellsDecision}
use Rattle.sm_solve.proofs.BranchLabelsLemmas.{labels_of_branch}
use Rattle.sm_solve.proofs.deciding.decide_forms.Goals as goal

pub labels-requires : goal.labels-requires
labels-requires c =
    subst (λ (v : ClassesValue). AreBefore (length (trees_in v.table)) v.terms) (sym c.requires.classes.2)
    (whole_before (trees_in c.args.table.now) c.requires.classes.0 c.requires.classes.1)

pub forms_of-requires-clause-labels : goal.forms_of-requires-clause-labels
forms_of-requires-clause-labels c =
    let is = c.requires.classes in
    subst (AreLabels (trees_in c.args.table.now) (are_equal (setting_of c.args.classes.now))) (sym c.deref.ensures.value)
    (labels_of_branch c.args.table.now is.0 c.args.facts.now is.1 c.args.classes.now is.2 c.in_ok-labels.labels.items c.in_ok-labels.ensures)

pub returns-in-Ok-clause-tells : goal.returns-in-Ok-clause-tells
returns-in-Ok-clause-tells c = λ steps count all left.
    let b = branch_of c.args.table.now c.args.facts.now in
    let told = subst (GivesForms b (forms_of b)) c.in-Ok.is (subst (λ (s : Seen). GivesForms s (forms_of s) c.forms_of.result) c.requires.seen c.forms_of.ensures) in
    subst (λ (o : Outcome (List (Linear ℕ))). IfOk c.decided.result (λ d. TellsDecision count all d (by_decision steps count all o)))
    (sym told.0) (c.decided.ensures.tells steps count all left)

pub returns-in-Ok-clause-shows : goal.returns-in-Ok-clause-shows
returns-in-Ok-clause-shows c =
    let b = branch_of c.args.table.now c.args.facts.now in
    let told = subst (GivesForms b (forms_of b)) c.in-Ok.is (subst (λ (s : Seen). GivesForms s (forms_of s) c.forms_of.result) c.requires.seen c.forms_of.ensures) in
    c.decided.ensures.shows b told.1
