-- What a block opens: the block alone, and what comes after it.
use Rattle.sm_plan.proofs.Imports.{◌≡◌, ℕ, false, List, [], ◌++◌, sym, ap, ◌∙◌, subst, fun_ext, Code, Copy, Sorts, IsWellSorted, of_copy, PerCopy, Assertion, conj, numbered, assertion_in, Formula, all_at_stores, TableValue, trees_in, sorts_in, ExtendsTable, BlockParts, IsBlockOf, IsBlockReady, block_alone, after_block, IsStateReady, front, rest_after, renewed, inner_state, after_block_state, rest_code, forms_in, stores_in, state_in, Continuation}
use Rattle.std.proofs.Common.{append-nil}
use Rattle.sm_plan.specs.Views.{SymState}
use Rattle.sm_plan.proofs.SortedCode.{front_well, rest_well}
use Rattle.sm_plan.proofs.TablesWiden.{stores_stay, stores_ready, stores_full, forms_stay, forms_ready}

-- over the table `u` of the state and the table `w` of what the block makes
module _ (u w : TableValue) (wider : ExtendsTable u w) (k : ℕ) (st : SymState) (counts : Copy → ℕ) (keep : Formula) (made : BlockParts)
    (is : IsBlockOf u w k st counts keep made) (good : IsBlockReady (sorts_in w) (trees_in w) made) (left : PerCopy Continuation)
    (passed : (c : Copy) → rest_code (of_copy left c) ≡ rest_after (counts c) (rest_code (of_copy st.rests c)))
    (ready : IsStateReady (sorts_in u) (trees_in u) st) where
  -- the state past the block, but for its stores
  abbrev pub past : SymState
  past = record { rests = left; stores = st.stores; target = st.target; is_final = st.is_final }

  abbrev pub form : Assertion
  form = assertion_in (sorts_in u) (trees_in u) (numbered keep)

  -- the block alone
  pub inner_is : (facts : List Assertion) →
      state_in (sorts_in w) (trees_in w) (facts ++ []) (block_alone past made)
      ≡ inner_state (state_in (sorts_in u) (trees_in u) facts st) counts form
  inner_is facts =
      let rest = fun_ext is.done in
      let stores = stores_stay u w wider st.stores ready.stores in
      let more = append-nil facts in
      λ i. record {
        rest = rest i;
        stores = stores i;
        facts = more i;
        target = is.target i;
        is_final = false;
      }

  -- the stores after it
  after_stores : stores_in (trees_in w) made.stores
      ≡ renewed k (λ (c : Copy). front (counts c) (rest_code (of_copy st.rests c))) (stores_in (trees_in u) st.stores)
  after_stores = is.stores ∙ ap (λ (f : Copy → Code). renewed k f (stores_in (trees_in u) st.stores)) (fun_ext is.done)

  -- what comes after it
  pub after_is : (facts : List Assertion) →
      state_in (sorts_in w) (trees_in w) (facts ++ (forms_in (sorts_in w) (trees_in w) made.kept.value.list.items ++ []))
      (after_block past made)
      ≡ after_block_state (state_in (sorts_in u) (trees_in u) facts st) k counts form
  after_is facts =
      let rest = fun_ext passed in
      let all = is.kept ∙ (λ i. all_at_stores (after_stores i) (conj form)) in
      let more = ap (λ (l : List Assertion). facts ++ l)
      (append-nil (forms_in (sorts_in w) (trees_in w) made.kept.value.list.items) ∙ all) in
      let target = forms_stay u w wider st.target.value.list.items ready.target in
      λ i. record {
        rest = rest i;
        stores = after_stores i;
        facts = more i;
        target = target i;
        is_final = st.is_final;
      }

  -- both can be gone on from
  sorted_again : (r s : Code) → s ≡ r → IsWellSorted (sorts_in u) r → IsWellSorted (sorts_in w) s
  sorted_again r s e well = subst (IsWellSorted (sorts_in w)) (sym e) (subst (λ (f : Sorts). IsWellSorted f r) (sym wider.sorts) well)

  pub inner_ready : IsStateReady (sorts_in w) (trees_in w) (block_alone past made)
  inner_ready = record {
    rests = λ (c : Copy).
        sorted_again (front (counts c) (rest_code (of_copy st.rests c))) (rest_code (of_copy made.done c)) (is.done c)
        (front_well (sorts_in u) (counts c) (rest_code (of_copy st.rests c)) (ready.rests c));
    stores = stores_ready u w wider st.stores ready.stores;
    target = good.target;
    full = stores_full u w wider st.stores ready.full;
  }

  pub after_ready : IsStateReady (sorts_in w) (trees_in w) (after_block past made)
  after_ready = record {
    rests = λ (c : Copy).
        sorted_again (rest_after (counts c) (rest_code (of_copy st.rests c))) (rest_code (of_copy left c)) (passed c)
        (rest_well (sorts_in u) (counts c) (rest_code (of_copy st.rests c)) (ready.rests c));
    stores = good.stores;
    target = forms_ready u w wider st.target.value.list.items ready.target;
    full = good.full;
  }
