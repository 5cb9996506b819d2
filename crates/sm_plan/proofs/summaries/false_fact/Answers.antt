-- The contrary of the condition's formula.
use Rattle.sm_plan.proofs.Imports.{◌≡◌, [], ◌∷◌, sym, ap, subst, ◌∙◌, condition_of, Formula, Assertion, store_in, trees_in, sorts_in, AreFormsReady, forms_in}
use Rattle.sm_plan.proofs.ForksOpened.{contrary_made, contrary_ready}
use Rattle.sm_plan.proofs.SortedTerms.{form_sorted}
use Rattle.sm_plan.proofs.TablesWiden.{widens_grown}
use Rattle.sm_plan.proofs.summaries.false_fact.Goals as goal

pub returns-clause-made : goal.returns-clause-made
returns-clause-made c =
    let v = c.args.table.now in
    let w = c.form_of.new.table in
    let s = c.args.store.now in
    let b = condition_of c.args.b.now in
    let f : Formula = c.in_ok-fact.fact in
    let g : Formula = c.in_ok-contrary.contrary in
    let sorted = form_sorted (sorts_in v) b (store_in (trees_in v) s) c.requires.well c.requires.ready.1 in
    let wider = widens_grown v w c.form_of.ensures.grows in
    let fs : c.in_ok-facts.facts.list.items ≡ g ∷ [] = c.in_ok-facts.ensures in
    ap (forms_in (sorts_in w) (trees_in w)) fs
    ∙ ap (λ (a : Assertion). a ∷ [])
    (contrary_made v w wider s b f c.in_ok-fact.ensures.made c.in_ok-fact.ensures.within sorted g c.in_ok-contrary.ensures)

pub returns-clause-ready : goal.returns-clause-ready
returns-clause-ready c =
    let v = c.args.table.now in
    let w = c.form_of.new.table in
    let s = c.args.store.now in
    let b = condition_of c.args.b.now in
    let f : Formula = c.in_ok-fact.fact in
    let g : Formula = c.in_ok-contrary.contrary in
    let sorted = form_sorted (sorts_in v) b (store_in (trees_in v) s) c.requires.well c.requires.ready.1 in
    let wider = widens_grown v w c.form_of.ensures.grows in
    let fs : c.in_ok-facts.facts.list.items ≡ g ∷ [] = c.in_ok-facts.ensures in
    subst (AreFormsReady (sorts_in w) (trees_in w)) (sym fs)
    (contrary_ready v w wider s b f c.in_ok-fact.ensures.made c.in_ok-fact.ensures.within sorted g c.in_ok-contrary.ensures, tt)
