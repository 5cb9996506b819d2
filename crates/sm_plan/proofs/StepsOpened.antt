-- What a step of a copy opens.
use Rattle.sm_plan.proofs.Imports.{◌≡◌, Some, List, [], ◌∷◌, ◌++◌, length, sym, ap, ◌∙◌, subst, arith, Copy, IsWellSorted, of_copy, Assertion, IsStoreSorted, store_in, IsStoreWithin, SymStore, TableValue, trees_in, sorts_in, AddsTerms, with_copy, stepped, moved, rest_code, state_in, Continuation, IsStoreFull, IsStateReady}
use Rattle.sm_plan.specs.Nodes as plan
use Rattle.sm_plan.specs.Views.{SymState}
use Rattle.sm_plan.proofs.OpeningsMade.{no_facts}
use Rattle.sm_plan.proofs.PartsMoved.{numbers_of, moved_is, moved_ready}
use Rattle.sm_plan.proofs.SortedStates.{stepped_sorted}
use Rattle.sm_plan.proofs.TablesWiden.{widens_grown}

-- the rest and the store of a copy are taken out, and others are put in
pub record IsExchanged (st next : SymState) (c : Copy) (rest new_rest : Continuation) (store new_store : SymStore) : Type 0 where
  pub rest_was : rest ≡ of_copy st.rests c
  pub store_was : store ≡ of_copy st.stores c
  pub rests : (d : Copy) → rest_code (of_copy next.rests d)
      ≡ with_copy (λ (e : Copy). rest_code (of_copy st.rests e)) c (rest_code new_rest) d
  pub stores : (d : Copy) → numbers_of (of_copy next.stores d)
      ≡ with_copy (λ (e : Copy). numbers_of (of_copy st.stores e)) c (numbers_of new_store) d
  pub target : next.target.value.list.items ≡ st.target.value.list.items
  pub is_final : next.is_final ≡ st.is_final

module _ (v w : TableValue) (grows : AddsTerms v w) (st next : SymState) (c : Copy) (rest new_rest : Continuation) (store new_store : SymStore)
    (ex : IsExchanged st next c rest new_rest store new_store) (ready : IsStateReady (sorts_in v) (trees_in v) st)
    (done : Some (rest_code new_rest, store_in (trees_in w) new_store) ≡ stepped (rest_code rest) (store_in (trees_in v) store))
    (within : IsStoreWithin (length (trees_in w)) new_store) (len : length new_store.list.items ≡ length store.list.items) where
  from : Some (rest_code new_rest, store_in (trees_in w) new_store)
      ≡ stepped (rest_code (of_copy st.rests c)) (store_in (trees_in v) (of_copy st.stores c))
  from = done ∙ ap (λ (r : Continuation). stepped (rest_code r) (store_in (trees_in v) store)) ex.rest_was
      ∙ ap (λ (s : SymStore). stepped (rest_code (of_copy st.rests c)) (store_in (trees_in v) s)) ex.store_was

  sorted : IsWellSorted (sorts_in v) (rest_code new_rest) × IsStoreSorted (sorts_in v) (store_in (trees_in w) new_store)
  sorted =
      stepped_sorted (sorts_in v) (rest_code (of_copy st.rests c)) (store_in (trees_in v) (of_copy st.stores c))
      (rest_code new_rest, store_in (trees_in w) new_store) (sym from)
      (ready.rests c) (ready.stores c).1

  full : IsStoreFull (sorts_in v) new_store
  full x h = let e = ap (λ (s : SymStore). length s.list.items) ex.store_was in let f = ready.full c x h in omega (arith, e, f, len)

  -- the state that follows
  pub step_ready : IsStateReady (sorts_in w) (trees_in w) next
  step_ready =
      moved_ready v w (widens_grown v w grows) st next c (rest_code new_rest) new_store ex.rests ex.stores ex.target ex.is_final
      ready sorted.0
      (within, subst (λ f. IsStoreSorted f (store_in (trees_in w) new_store)) (sym grows.sorts) sorted.1) full

  pub step_is : (facts : List Assertion) →
      Some (plan.follows (state_in (sorts_in w) (trees_in w) (facts ++ []) next ∷ []))
      ≡ plan.after_step (state_in (sorts_in v) (trees_in v) facts st) c
      (stepped (rest_code (of_copy st.rests c)) (store_in (trees_in v) (of_copy st.stores c)))
  step_is facts =
      let was = state_in (sorts_in v) (trees_in v) facts st in
      ap (λ s. Some (plan.follows (s ∷ [])))
      (moved_is v w (widens_grown v w grows) st next c (rest_code new_rest) new_store ex.rests ex.stores ex.target ex.is_final
      ready facts []
      ∙ no_facts (moved was c (rest_code new_rest) (store_in (trees_in w) new_store)))
      ∙ ap (plan.after_step was c) from
