-- The condition's formula, and its contrary.
use Rattle.sm_plan.proofs.Imports.{◌≡◌, [], ◌∷◌, sym, ap, subst, ◌∙◌, condition_of, Formula, Assertion, store_in, trees_in, sorts_in, AreFormsReady, forms_in}
use Rattle.sm_plan.proofs.ForksOpened.{fact_ready, contrary_made, contrary_ready}
use Rattle.sm_plan.proofs.SortedTerms.{form_sorted}
use Rattle.sm_plan.proofs.TablesWiden.{widens_grown}
use Rattle.sm_plan.proofs.moves.both_facts.Goals as goal

pub returns-clause-holds : goal.returns-clause-holds
returns-clause-holds c =
    let w = c.form_of.new.table in
    let f : Formula = c.in_ok-fact.fact in
    let fs : c.in_ok-holds.holds.list.items ≡ f ∷ [] = c.in_ok-holds.ensures in
    ap (forms_in (sorts_in w) (trees_in w)) fs ∙ ap (λ (a : Assertion). a ∷ []) c.in_ok-fact.ensures.made

pub returns-clause-fails : goal.returns-clause-fails
returns-clause-fails c =
    let v = c.args.table.now in
    let w = c.form_of.new.table in
    let s = c.args.store.now in
    let b = condition_of c.args.guard.now in
    let f : Formula = c.in_ok-fact.fact in
    let g : Formula = c.in_ok-contrary.contrary in
    let sorted = form_sorted (sorts_in v) b (store_in (trees_in v) s) c.requires.well c.requires.ready.1 in
    let wider = widens_grown v w c.form_of.ensures.grows in
    let fs : c.in_ok-fails.fails.list.items ≡ g ∷ [] = c.in_ok-fails.ensures in
    ap (forms_in (sorts_in w) (trees_in w)) fs
    ∙ ap (λ (a : Assertion). a ∷ [])
    (contrary_made v w wider s b f c.in_ok-fact.ensures.made c.in_ok-fact.ensures.within sorted g c.in_ok-contrary.ensures)

pub returns-clause-ready_holds : goal.returns-clause-ready_holds
returns-clause-ready_holds c =
    let v = c.args.table.now in
    let w = c.form_of.new.table in
    let s = c.args.store.now in
    let b = condition_of c.args.guard.now in
    let f : Formula = c.in_ok-fact.fact in
    let sorted = form_sorted (sorts_in v) b (store_in (trees_in v) s) c.requires.well c.requires.ready.1 in
    let wider = widens_grown v w c.form_of.ensures.grows in
    let fs : c.in_ok-holds.holds.list.items ≡ f ∷ [] = c.in_ok-holds.ensures in
    subst (AreFormsReady (sorts_in w) (trees_in w)) (sym fs)
    (fact_ready v w wider s b f c.in_ok-fact.ensures.made c.in_ok-fact.ensures.within sorted, tt)

pub returns-clause-ready_fails : goal.returns-clause-ready_fails
returns-clause-ready_fails c =
    let v = c.args.table.now in
    let w = c.form_of.new.table in
    let s = c.args.store.now in
    let b = condition_of c.args.guard.now in
    let f : Formula = c.in_ok-fact.fact in
    let g : Formula = c.in_ok-contrary.contrary in
    let sorted = form_sorted (sorts_in v) b (store_in (trees_in v) s) c.requires.well c.requires.ready.1 in
    let wider = widens_grown v w c.form_of.ensures.grows in
    let fs : c.in_ok-fails.fails.list.items ≡ g ∷ [] = c.in_ok-fails.ensures in
    subst (AreFormsReady (sorts_in w) (trees_in w)) (sym fs)
    (contrary_ready v w wider s b f c.in_ok-fact.ensures.made c.in_ok-fact.ensures.within sorted g c.in_ok-contrary.ensures, tt)
