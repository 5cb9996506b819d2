use Rattle.sm_solve.proofs.Imports.{sym, ap, ◌∙◌, subst, Fits, trees_in, sorts_in, GivesForms, seen_in, forms_of}
use Rattle.sm_solve.proofs.same_forms.are_forms.Goals as goal

pub returns-in-Ok : goal.returns-in-Ok
returns-in-Ok c = λ equal apart labels same.
    let trees = trees_in c.args.table.now in
    let b = seen_in (sorts_in c.args.table.now) trees trees c.args.facts.now equal apart in
    let told = subst (GivesForms b (forms_of b)) c.in-Ok.is (c.forms_by_labels.ensures equal apart labels) in
    told.0 ∙ ap Fits (sym c.deref.ensures.value ∙ c.are_same.ensures same)
