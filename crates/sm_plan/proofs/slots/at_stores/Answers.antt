-- Each formula over the table with those before it.
use Rattle.sm_plan.proofs.Imports.{◌∙◌, ℕ, List, take, length, refl, sym, ap, subst, nat_eq, get, lookup, take_all, Copy, Sorts, Formula, all_at_stores, AreFormsSorted, trees_in, sorts_in, grows-not, grows-twice, forms_in, stores_in}
use Rattle.sm_plan.proofs.FillingGrows.{stores_ready, known_none}
use Rattle.sm_plan.proofs.FillingForms.{AreFormsWithin, form_ready, ready_at, ready_sorted, ready_from, within_push, within_later, forms_more, at_more, made_push}
use Rattle.sm_plan.proofs.SortedTerms.{all_at_stores_sorted}
use Rattle.sm_plan.proofs.slots.at_stores.Goals as goal
use Rattle.sm_plan.proofs.TablesWiden.{widens_grown}

pub loop-form-init : goal.loop-form-init
loop-form-init c =
    let v = c.args.table.now in
    record {
      grows = grows-not v v refl;
      known = known_none v (stores_in (trees_in v) c.args.stores.now) (get nat_eq c.new-known.result)
          (λ (n : ℕ). ap (lookup (nat_eq n)) c.new-known.ensures.empty);
      made = ap (forms_in (sorts_in v) (trees_in v)) c.new-list.ensures.items;
      within = subst (AreFormsWithin (length (trees_in v))) (sym c.new-list.ensures.items) tt;
    }

pub filled_form-requires-clause-form : goal.filled_form-requires-clause-form
filled_form-requires-clause-form c =
    let v = c.args.table.now in
    form_ready v c.loop-form.table c.loop-form.invariant.grows c.form-item.result
    (ready_at (sorts_in v) (trees_in v) c.args.forms.now c.loop-form.form-index c.form-item.result c.requires.forms c.loop-form-test.true
    c.form-item.is)

pub filled_form-requires-clause-stores : goal.filled_form-requires-clause-stores
filled_form-requires-clause-stores c = stores_ready c.args.table.now c.loop-form.table c.loop-form.invariant.grows c.args.stores.now
    c.requires.stores

pub filled_form-requires-clause-known : goal.filled_form-requires-clause-known
filled_form-requires-clause-known c = c.loop-form.invariant.known

pub returns-in_err-filled_form-clause-widens : goal.returns-in_err-filled_form-clause-widens
returns-in_err-filled_form-clause-widens c =
    widens_grown c.args.table.now c.filled_form.new.table
    (grows-twice c.args.table.now c.loop-form.table c.filled_form.new.table c.loop-form.invariant.grows c.filled_form.ensures.grows)

pub returns-in_err-push-clause-widens : goal.returns-in_err-push-clause-widens
returns-in_err-push-clause-widens c =
    widens_grown c.args.table.now c.filled_form.new.table
    (grows-twice c.args.table.now c.loop-form.table c.filled_form.new.table c.loop-form.invariant.grows c.filled_form.ensures.grows)

pub loop-form-preserved : goal.loop-form-preserved
loop-form-preserved c =
    let u = c.args.table.now in
    let v = c.loop-form.table in
    let w = c.filled_form.new.table in
    let stores = c.args.stores.now in
    let s = stores_in (trees_in u) stores in
    let old = c.loop-form.invariant in
    let f = c.form-item.result in
    let g = c.in_ok-filled_form.field-0 in
    let first = take c.loop-form.form-index c.args.forms.now in
    let good = ready_at (sorts_in u) (trees_in u) c.args.forms.now c.loop-form.form-index f c.requires.forms c.loop-form-test.true
    c.form-item.is in
    let items = c.in_ok-push.ensures.items in
    record {
      grows = grows-twice u v w old.grows c.filled_form.ensures.grows;
      known = c.in_ok-filled_form.ensures.known;
      made = ap (forms_in (sorts_in w) (trees_in w)) items
          ∙ made_push u w s c.args.forms.now c.loop-form.list.items c.loop-form.form-index f g c.loop-form-test.true c.form-item.is
          (forms_more v w c.filled_form.ensures.grows c.loop-form.list.items old.within ∙ old.made)
          (c.in_ok-filled_form.ensures.made ∙ at_more u v old.grows stores c.requires.stores f good);
      within = subst (AreFormsWithin (length (trees_in w))) (sym items)
          (within_push (length (trees_in w)) c.loop-form.list.items g
          (within_later v w c.filled_form.ensures.grows c.loop-form.list.items old.within) c.in_ok-filled_form.ensures.within);
    }

pub returns-clause-made : goal.returns-clause-made
returns-clause-made c =
    let u = c.args.table.now in
    let s = stores_in (trees_in u) c.args.stores.now in
    c.loop-form.invariant.made
    ∙ ap (λ (l : List Formula). all_at_stores s (forms_in (sorts_in u) (trees_in u) l))
    (take_all c.loop-form.form-index c.args.forms.now c.loop-form-test.false)

pub returns-clause-ready : goal.returns-clause-ready
returns-clause-ready c =
    let u = c.args.table.now in
    let v = c.loop-form.table in
    let s = stores_in (trees_in u) c.args.stores.now in
    let made = c.loop-form.invariant.made
    ∙ ap (λ (l : List Formula). all_at_stores s (forms_in (sorts_in u) (trees_in u) l))
    (take_all c.loop-form.form-index c.args.forms.now c.loop-form-test.false) in
    let sorted = all_at_stores_sorted (sorts_in u) s (λ (d : Copy). (c.requires.stores d).1)
    (forms_in (sorts_in u) (trees_in u) c.args.forms.now)
    (ready_sorted (sorts_in u) (trees_in u) c.args.forms.now c.requires.forms) in
    ready_from (sorts_in v) (trees_in v) c.loop-form.list.items c.loop-form.invariant.within
    (subst (AreFormsSorted (sorts_in v)) (sym made)
    (subst (λ (sorts : Sorts). AreFormsSorted sorts (all_at_stores s (forms_in (sorts_in u) (trees_in u) c.args.forms.now)))
    (sym c.loop-form.invariant.grows.sorts) sorted))

pub returns-clause-widens : goal.returns-clause-widens
returns-clause-widens c = widens_grown c.args.table.now c.loop-form.table c.loop-form.invariant.grows
