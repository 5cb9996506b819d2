-- The parts stand over the stores.
use Rattle.sm_plan.proofs.Imports.{List, ◌∙◌, sym, ap, subst, Sorts, all_at_stores, trees_in, sorts_in, Tree, Formulas, AreFormsReady, forms_in, stores_in}
use Rattle.sm_plan.proofs.blocks.kept_forms.Goals as goal

pub shared_at-requires-clause-forms : goal.shared_at-requires-clause-forms
shared_at-requires-clause-forms c =
    let u = c.args.table.now in
    subst (λ (f : Formulas). AreFormsReady (sorts_in u) (trees_in u) f.list.items) (sym c.deref.ensures)
    (c.in_ok-parts.ensures.ready (sorts_in u) (trees_in u) c.requires.keep)

pub returns-clause-parts : goal.returns-clause-parts
returns-clause-parts c = c.in_ok-parts.ensures.made

pub returns-clause-kept : goal.returns-clause-kept
returns-clause-kept c =
    let u = c.args.table.now in
    let stores = stores_in (trees_in u) c.args.stores.now in
    c.in_ok-kept.ensures.made
    ∙ ap (λ (f : Formulas). all_at_stores stores (forms_in (sorts_in u) (trees_in u) f.list.items)) c.deref.ensures
    ∙ ap (all_at_stores stores) (c.in_ok-parts.ensures.made (sorts_in u) (trees_in u))

pub returns-clause-parts_ready : goal.returns-clause-parts_ready
returns-clause-parts_ready c = c.in_ok-parts.ensures.ready
