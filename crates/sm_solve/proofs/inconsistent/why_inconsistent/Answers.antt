use Rattle.sm_solve.proofs.Imports.{◌≡◌, ℕ, length, IfOk, IfSome, sym, ap, subst, ◌∙◌, trees_in, sorts_in, AreBefore, are_apart, are_equal, ClassesValue, setting_of, Seen, is_closed, AreLabels, seen_in, ByForms, TellsForms, IsInconsistentBy, Walked, Closes, by_forms, forms_of, whole_before}
use Rattle.sm_solve.proofs.BranchLabelsLemmas.{labels_of_branch}
use Rattle.sm_solve.proofs.inconsistent.why_inconsistent.Goals as goal

pub labels-requires : goal.labels-requires
labels-requires c =
    subst (λ (v : ClassesValue). AreBefore (length (trees_in v.table)) v.terms) (sym c.requires.classes.2)
    (whole_before (trees_in c.args.table.now) c.requires.classes.0 c.requires.classes.1)

pub closed_by-requires-clause-labels : goal.closed_by-requires-clause-labels
closed_by-requires-clause-labels c =
    let is = c.requires.classes in
    subst (AreLabels (trees_in c.args.table.now) (are_equal (setting_of c.args.classes.now))) (sym c.deref.ensures.value)
    (labels_of_branch c.args.table.now is.0 c.args.facts.now is.1 c.args.classes.now is.2 c.in_ok-labels.labels.items c.in_ok-labels.ensures)

pub by_forms-requires-clause-labels : goal.by_forms-requires-clause-labels
by_forms-requires-clause-labels c =
    let is = c.requires.classes in
    subst (AreLabels (trees_in c.args.table.now) (are_equal (setting_of c.args.classes.now))) (sym c.deref-2.ensures.value)
    (labels_of_branch c.args.table.now is.0 c.args.facts.now is.1 c.args.classes.now is.2 c.in_ok-labels.labels.items c.in_ok-labels.ensures)

pub after_sums-requires-clause-labels : goal.after_sums-requires-clause-labels
after_sums-requires-clause-labels c =
    let is = c.requires.classes in
    subst (AreLabels (trees_in c.args.table.now) (are_equal (setting_of c.args.classes.now))) (sym c.deref-in-Contradiction.ensures.value)
    (labels_of_branch c.args.table.now is.0 c.args.facts.now is.1 c.args.classes.now is.2 c.in_ok-labels.labels.items c.in_ok-labels.ensures)

pub returns-then-is_some : goal.returns-then-is_some
returns-then-is_some c = sym (c.if-is_some.ensures ∙ c.in_ok-closed_by.ensures.closed ∙ ap is_closed c.requires.seen)

pub returns-in-Contradiction : goal.returns-in-Contradiction
returns-in-Contradiction c =
    let trees = trees_in c.args.table.now in
    let equal = are_equal (setting_of c.args.classes.now) in
    let s : Seen =
    seen_in (sorts_in c.args.table.now) trees trees c.args.facts.now equal (are_apart (setting_of c.args.classes.now) equal) in
    let came : (next : ℕ → Walked) → by_forms c.args.steps 1 (length trees) (forms_of s) next ≡ Closes c.in-Contradiction.count =
    λ next. subst (λ (r : ByForms). TellsForms r (by_forms c.args.steps 1 (length trees) (forms_of s) next) next) c.in-Contradiction.is
    (c.in_ok-count.ensures.forms next) in
    subst (λ (b : Seen). IfOk c.after_sums.result (λ o. IfSome o (IsInconsistentBy c.args.steps b))) c.requires.seen
    (c.after_sums.ensures c.args.steps came)
