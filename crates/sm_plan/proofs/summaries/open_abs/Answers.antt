-- The state with the summaries, and that the last guard is false.
use Rattle.sm_plan.proofs.Imports.{◌≡◌, ◌&&◌, Bool, true, nat_le, List, [], ◌∷◌, Some, length, refl, sym, ap, subst, ◌∙◌, Code, Copy, IsWellSorted, copy_named, of_copy, store_in, SymStore, trees_in, sorts_in, with_copy, IsStoreReady, IsStoreFull, State, is_long, front, rest_after, last_guard, summarized, summary_state, false_guard, rest_code, forms_in, state_in, Continuation}
use Rattle.sm_plan.specs.Nodes as plan
use Rattle.sm_plan.specs.Views.{SymState}
use Rattle.sm_plan.proofs.OpeningsMade.{opening_states}
use Rattle.sm_plan.proofs.PartsMoved.{numbers_of, over_given}
use Rattle.sm_plan.proofs.SummariesOpened.{summary_ready, summary_is}
use Rattle.sm_plan.proofs.summaries.open_abs.Goals as goal

pub sum_up-requires-clause-well : goal.sum_up-requires-clause-well
sum_up-requires-clause-well c =
    subst (λ (r : Continuation). IsWellSorted (sorts_in c.args.table.now) (rest_code r)) (sym c.get-rest.ensures)
    (c.requires.rests (copy_named c.args.copy))

pub sum_up-requires-clause-ready : goal.sum_up-requires-clause-ready
sum_up-requires-clause-ready c =
    subst (IsStoreReady (sorts_in c.args.table.now) (trees_in c.args.table.now)) (sym c.get-2.ensures)
    (c.requires.stores (copy_named c.args.copy))

pub sum_up-requires-clause-full : goal.sum_up-requires-clause-full
sum_up-requires-clause-full c =
    subst (IsStoreFull (sorts_in c.args.table.now)) (sym c.get-2.ensures) (c.requires.full (copy_named c.args.copy))

pub returns-clause-opened : goal.returns-clause-opened
returns-clause-opened c =
    let v = c.args.table.now in
    let u = c.sum_up.new.table in
    let wider = c.sum_up.ensures.widens in
    let st : SymState = c.args.state in
    let k = copy_named c.args.copy in
    let n = c.args.count in
    let code : Code = rest_code (of_copy st.rests k) in
    let at : c.get-rest.result.now ≡ of_copy st.rests k = c.get-rest.ensures in
    let of_store : c.get-2.result.now ≡ of_copy st.stores k = c.get-2.ensures in
    let store : SymStore = c.in_ok-made.made.terms in
    let store_is : store_in (trees_in u) store ≡ summarized (front n code) (store_in (trees_in v) (of_copy st.stores k)) =
    c.in_ok-made.ensures.terms
    ∙ (λ i. summarized (front n (rest_code (at i))) (store_in (trees_in v) (of_store i))) in
    let len : length store.list.items ≡ length (of_copy st.stores k).list.items =
    c.in_ok-made.ensures.len ∙ ap (λ (s : SymStore). length s.list.items) of_store in
    let within = c.in_ok-made.ensures.within in
    let next : SymState = record { rests = c.pass.new.rests; stores = c.exchange.new.all; target = st.target; is_final = st.is_final } in
    let rests : (d : Copy) → rest_code (of_copy next.rests d)
    ≡ with_copy (λ (e : Copy). rest_code (of_copy st.rests e)) k (rest_after n code) d = c.pass.ensures in
    let all : of_copy next.stores ≡ with_copy (of_copy st.stores) k store = c.exchange.ensures.all in
    let stores : (d : Copy) → numbers_of (of_copy next.stores d)
    ≡ with_copy (λ (e : Copy). numbers_of (of_copy st.stores e)) k (numbers_of store) d =
    λ (d : Copy). ap (λ (f : Copy → SymStore). numbers_of (f d)) all ∙ ap (λ f. f d) (over_given numbers_of (of_copy st.stores) k store) in
    let fs = c.in_ok-made.made.guard.list.items in
    let guard : forms_in (sorts_in u) (trees_in u) fs ≡ false_guard (last_guard (front n code)) (store_in (trees_in u) store) =
    c.in_ok-made.ensures.guard ∙ (λ i. false_guard (last_guard (front n (rest_code (at i)))) (store_in (trees_in u) store)) in
    let o = c.in_ok-opened.opened in
    let passes : c.can_pass.result ≡ true = cc in
    let test : (nat_le 1 n && is_long n code) ≡ true =
    sym (c.can_pass.ensures ∙ ap (λ (r : Continuation). nat_le 1 n && is_long n (rest_code r)) c.get.ensures) ∙ passes in
    opening_states v u st _ o c.in_ok-opened.ensures.goals c.in_ok-opened.ensures.asking
    (c.in_ok-opened.ensures.ready (sorts_in u) (trees_in u)
    (summary_ready v u wider st k n store c.requires store_is within len next rests stores refl refl) c.in_ok-made.ensures.ready)
    (λ facts.
    let was = state_in (sorts_in v) (trees_in v) facts st in
    ap (λ (l : List State). Some (plan.follows l))
    (c.in_ok-opened.ensures.states (sorts_in u) (trees_in u) facts
    ∙ ap (λ (s : State). s ∷ [])
    (summary_is v u wider st k n store c.requires store_is within len next rests stores refl refl facts fs guard))
    ∙ sym (ap (λ (b : Bool). plan.where_true b (plan.follows (summary_state was k (front n code) (rest_after n code) ∷ []))) test))
