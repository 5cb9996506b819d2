-- What the summary of a copy's first statements opens.
use Rattle.sm_plan.proofs.Imports.{◌≡◌, ℕ, Option, Some, None, List, ◌++◌, length, sym, ap, ◌∙◌, subst, arith, option_map, Code, Copy, Sorts, IsWellSorted, IsWellSortedCondition, of_copy, condition_of, Formula, Assertion, SymbolicStore, IsStoreSorted, store_in, IsStoreWithin, SymStore, TableValue, trees_in, sorts_in, ExtendsTable, with_copy, front, rest_after, last_guard, moved, with_facts, summarized, summary_state, false_guard, rest_code, forms_in, state_in, IsStoreReady, IsStoreFull, IsStateReady}
use Rattle.std.specs.Option.{IfSome}
use Rattle.sm_syntax.specs.declared.tree.Cond.{Cond}
use Rattle.sm_plan.specs.Views.{SymState}
use Rattle.sm_plan.proofs.PartsMoved.{numbers_of, moved_is, moved_ready}
use Rattle.sm_plan.proofs.SortedCode.{front_well, rest_well, last_guard_well}
use Rattle.sm_plan.proofs.SortedStates.{summarized_sorted}
use denote.Bor.{Bor}

-- the guard that was found is well sorted
pub guard_found : (sorts : Sorts) (c : Code) (r : Option (Bor Cond)) → option_map (λ (b : Bor Cond). condition_of b.now) r ≡ last_guard c →
    IsWellSorted sorts c
    → IfSome r (λ (b : Bor Cond). IsWellSortedCondition sorts (condition_of b.now))
guard_found sorts c None e well = tt
guard_found sorts c (Some b) e well = last_guard_well sorts c (condition_of b.now) well (sym e)

-- the store with the summaries is ready
pub summed_ready : (v u : TableValue) → ExtendsTable v u → (code : Code) (n : ℕ) (old store : SymStore) → IsWellSorted (sorts_in v) code →
    IsStoreReady (sorts_in v) (trees_in v) old → store_in (trees_in u) store ≡ summarized (front n code) (store_in (trees_in v) old) →
    IsStoreWithin (length (trees_in u)) store
    → IsStoreReady (sorts_in u) (trees_in u) store
summed_ready v u first code n old store well ready store_is within = (
  within,
  subst (IsStoreSorted (sorts_in u)) (sym store_is)
      (subst (λ (f : Sorts). IsStoreSorted f (summarized (front n code) (store_in (trees_in v) old))) (sym first.sorts)
      (summarized_sorted (sorts_in v) (front n code) (store_in (trees_in v) old) (front_well (sorts_in v) n code well) ready.1)),
)

-- v is the table before, and u that of the summaries and the guard
module _ (v u : TableValue) (first : ExtendsTable v u) (st : SymState) (c : Copy) (n : ℕ) (store : SymStore)
    (ready : IsStateReady (sorts_in v) (trees_in v) st)
    (store_is : store_in (trees_in u) store ≡ summarized (front n (rest_code (of_copy st.rests c)))
    (store_in (trees_in v) (of_copy st.stores c)))
    (within : IsStoreWithin (length (trees_in u)) store) (len : length store.list.items ≡ length (of_copy st.stores c).list.items)
    (next : SymState)
    (rests : (d : Copy) → rest_code (of_copy next.rests d)
    ≡ with_copy (λ (e : Copy). rest_code (of_copy st.rests e)) c (rest_after n (rest_code (of_copy st.rests c))) d)
    (stores : (d : Copy) → numbers_of (of_copy next.stores d)
    ≡ with_copy (λ (e : Copy). numbers_of (of_copy st.stores e)) c (numbers_of store) d)
    (target : next.target.value.list.items ≡ st.target.value.list.items) (final : next.is_final ≡ st.is_final) where
  abbrev code : Code
  code = rest_code (of_copy st.rests c)

  abbrev before : SymbolicStore
  before = store_in (trees_in v) (of_copy st.stores c)

  summed_full : IsStoreFull (sorts_in v) store
  summed_full x h = let f = ready.full c x h in omega (arith, f, len)

  pub summary_ready : IsStateReady (sorts_in u) (trees_in u) next
  summary_ready =
      moved_ready v u first st next c (rest_after n code) store rests stores target final ready
      (rest_well (sorts_in v) n code (ready.rests c))
      (summed_ready v u first code n (of_copy st.stores c) store (ready.rests c) (ready.stores c) store_is within) summed_full

  pub summary_is : (facts : List Assertion) (fs : List Formula) →
      forms_in (sorts_in u) (trees_in u) fs ≡ false_guard (last_guard (front n code)) (store_in (trees_in u) store) →
      state_in (sorts_in u) (trees_in u) (facts ++ forms_in (sorts_in u) (trees_in u) fs) next
      ≡ summary_state (state_in (sorts_in v) (trees_in v) facts st) c (front n code) (rest_after n code)
  summary_is facts fs e =
      let was = state_in (sorts_in v) (trees_in v) facts st in
      ap (λ (a : List Assertion). state_in (sorts_in u) (trees_in u) (facts ++ a) next)
      (e ∙ ap (false_guard (last_guard (front n code))) store_is)
      ∙ moved_is v u first st next c (rest_after n code) store rests stores target final ready facts
      (false_guard (last_guard (front n code)) (summarized (front n code) before))
      ∙ ap (λ (s : SymbolicStore). with_facts (moved was c (rest_after n code) s)
      (false_guard (last_guard (front n code)) (summarized (front n code) before))) store_is
