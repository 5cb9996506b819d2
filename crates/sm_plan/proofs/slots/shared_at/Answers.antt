-- What is shared is what is filled.
use Rattle.sm_plan.proofs.Imports.{List, sym, ap, subst, ◌∙◌, Formula, all_at_stores, trees_in, sorts_in, Formulas, AreFormsReady, forms_in, stores_in}
use Rattle.sm_plan.proofs.slots.shared_at.Goals as goal

pub at_stores-requires-clause-forms : goal.at_stores-requires-clause-forms
at_stores-requires-clause-forms c =
    let u = c.args.table.now in
    subst (AreFormsReady (sorts_in u) (trees_in u)) (sym c.deref.ensures.value) c.requires.forms

pub returns-clause-made : goal.returns-clause-made
returns-clause-made c =
    let u = c.args.table.now in
    let w = c.at_stores.new.table in
    ap (λ (f : Formulas). forms_in (sorts_in w) (trees_in w) f.list.items) c.in_ok-new.ensures.ok ∙ c.in_ok-filled.ensures.made
    ∙ ap (λ (l : List Formula). all_at_stores (stores_in (trees_in u) c.args.stores.now) (forms_in (sorts_in u) (trees_in u) l))
    c.deref.ensures.value
