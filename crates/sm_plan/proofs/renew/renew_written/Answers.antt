-- The names that code assigns have new values.
use Rattle.sm_plan.proofs.Imports.{◌≡◌, ◌∙◌, ℕ, true, List, length, sym, subst, ap, arith, Name, assigns, is_in, Sorts, copy_named, assigned_declared, names_in_list, IsDeclaredIn, IsStoreSorted, store_in, trees_in, sorts_in, with_new, rest_code}
use Rattle.sm_plan.proofs.RenewedStores.{new_same, new_sorted}
use Rattle.sm_plan.proofs.renew.renew_written.Goals as goal

pub renew-requires-clause-declared : goal.renew-requires-clause-declared
renew-requires-clause-declared c = λ (x : ℕ) h.
    let here : is_in (names_in_list c.in_ok-names.names.list.items) x ≡ true =
    subst (λ (l : List Name). is_in (names_in_list l) x ≡ true) c.deref.ensures.value h in
    assigned_declared (sorts_in c.args.table.now) (rest_code c.args.done.now) x c.requires.done (sym (c.in_ok-names.ensures.names x) ∙ here)

pub returns-clause-made : goal.returns-clause-made
returns-clause-made c =
    let v = c.args.table.now in
    let k = c.args.number in
    let copy = copy_named c.args.copy in
    c.in_ok-renew.ensures.made
    ∙ ap (λ (l : List Name). with_new k copy (is_in (names_in_list l)) (store_in (trees_in v) c.args.store.now)) c.deref.ensures.value
    ∙ new_same k copy (is_in (names_in_list c.in_ok-names.names.list.items)) (assigns (rest_code c.args.done.now))
    (store_in (trees_in v) c.args.store.now)
    c.in_ok-names.ensures.names

pub returns-clause-ready : goal.returns-clause-ready
returns-clause-ready c =
    let v = c.args.table.now in
    let k = c.args.number in
    let copy = copy_named c.args.copy in
    let made = c.in_ok-renew.ensures.made
    ∙ ap (λ (l : List Name). with_new k copy (is_in (names_in_list l)) (store_in (trees_in v) c.args.store.now)) c.deref.ensures.value
    ∙ new_same k copy (is_in (names_in_list c.in_ok-names.names.list.items)) (assigns (rest_code c.args.done.now))
    (store_in (trees_in v) c.args.store.now)
    c.in_ok-names.ensures.names in (
      c.in_ok-renew.ensures.within,
      subst (IsStoreSorted (sorts_in c.renew.new.table)) (sym made)
          (subst (λ (sorts : Sorts). IsStoreSorted sorts
          (with_new k copy (assigns (rest_code c.args.done.now)) (store_in (trees_in v) c.args.store.now)))
          (sym c.renew.ensures.grows.sorts)
          (new_sorted (sorts_in v) k copy (rest_code c.args.done.now) (store_in (trees_in v) c.args.store.now) c.requires.done
          c.requires.ready.1)),
    )

pub returns-clause-full : goal.returns-clause-full
returns-clause-full c = λ (x : ℕ) (h : IsDeclaredIn (sorts_in c.renew.new.table) x).
    let inside = c.requires.full x (subst (λ (sorts : Sorts). IsDeclaredIn sorts x) c.renew.ensures.grows.sorts h) in
    let long : length c.renew.new.store.list.items ≡ length c.args.store.now.list.items =
    c.renew.ensures.len in
    omega arith
