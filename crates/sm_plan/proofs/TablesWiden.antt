-- What a table's numbers stand for stays where the table has more behind.
use Rattle.sm_plan.proofs.Imports.{◌≡◌, ℕ, zero, suc, ◌<◌, ◌≤◌, Option, Some, None, List, [], ◌∷◌, ◌++◌, length, slice_get, refl, sym, ap, ◌∙◌, subst, arith, take, take-append_seam, fun_ext, length-append, Code, Copy, Sorts, IsWellSorted, of_copy, PerCopy, Tree, Assertion, tree_sort, IsFormSorted, IsStoreSorted, NumberedFormula, numbered, assertion_in, IsFormulaWithin, Formula, tree_or_start, store_in, IsStoreWithin, SymStore, TableValue, trees_in, sorts_in, codes_in, tree_at, TermId, AddsTerms, ExtendsTable, part_before, tree_at-more, before-later, rest_code, forms_in, stores_in, state_in, IsFormReady, AreFormsReady, IsStoreReady, AreStoresReady, AreStoresFull, IsStateReady}
use Rattle.std.proofs.Common.{append-nil, append_assoc}
use Rattle.sm_term.specs.Assertions as plain
use Rattle.sm_term.specs.Formulas.{Yes, No, Eq, Ne, Le, Lt, And, Or}
use Rattle.sm_plan.specs.Views.{SymState}

-- a table widens by nothing, by what it grows, and twice
pub widens_same : (v : TableValue) → ExtendsTable v v
widens_same v = record {
  sorts = refl;
  codes = ([], sym (append-nil _));
  trees = ([], sym (append-nil _));
}

pub widens_grown : (v w : TableValue) → AddsTerms v w → ExtendsTable v w
widens_grown v w g = record {
  sorts = g.sorts;
  codes = ([], g.codes ∙ sym (append-nil _));
  trees = g.trees;
}

pub widens_twice : (u v w : TableValue) → ExtendsTable u v → ExtendsTable v w → ExtendsTable u w
widens_twice u v w first second = record {
  sorts = second.sorts ∙ first.sorts;
  codes = (
    first.codes.0 ++ second.codes.0,
    second.codes.1 ∙ ap (λ (l : List Code). l ++ second.codes.0) first.codes.1
        ∙ append_assoc _ first.codes.0 second.codes.0,
  );
  trees = (
    first.trees.0 ++ second.trees.0,
    second.trees.1 ∙ ap (λ (l : List Tree). l ++ second.trees.0) first.trees.1
        ∙ append_assoc _ first.trees.0 second.trees.0,
  );
}

-- a table that widened and was cut back has the trees that it had, and is no narrower
pub cut_back : (u v w : TableValue) → ExtendsTable u v → trees_in w ≡ take (length (trees_in u)) (trees_in v) → trees_in w ≡ trees_in u
cut_back u v w wider cut = cut ∙ ap (take (length (trees_in u))) wider.trees.1 ∙ take-append_seam (trees_in u) wider.trees.0

pub widens_cut : (u v w : TableValue) → ExtendsTable u v → trees_in w ≡ take (length (trees_in u)) (trees_in v) → sorts_in w ≡ sorts_in v → codes_in w ≡ codes_in v → ExtendsTable u w
widens_cut u v w wider cut sorts codes = record {
  sorts = sorts ∙ wider.sorts;
  codes = (wider.codes.0, codes ∙ wider.codes.1);
  trees = ([], cut_back u v w wider cut ∙ sym (append-nil _));
}

-- from one table to a wider one
module _ (v w : TableValue) (wider : ExtendsTable v w) where
  pub longer : length (trees_in v) ≤ length (trees_in w)
  longer = let long = ap length wider.trees.1 ∙ length-append (trees_in v) wider.trees.0 in omega arith

  pub tree_stays : (n : ℕ) → n < length (trees_in v) → tree_at (trees_in w) n ≡ tree_at (trees_in v) n
  tree_stays n h = ap (λ (l : List Tree). tree_at l n) wider.trees.1 ∙ tree_at-more (trees_in v) wider.trees.0 n h

  pub got_stays : (n : ℕ) (t : Tree) → slice_get (trees_in v) n ≡ Some t → slice_get (trees_in w) n ≡ Some t
  got_stays n t e = ap (λ (l : List Tree). slice_get l n) wider.trees.1 ∙ over (trees_in v) n e
    where
      over : (l : List Tree) (n : ℕ) → slice_get l n ≡ Some t → slice_get (l ++ wider.trees.0) n ≡ Some t
      over [] n e = absurd cc
      over (x ∷ l) zero e = e
      over (x ∷ l) (suc n) e = over l n e

  -- stores
  pub store_stays : (s : SymStore) → IsStoreWithin (length (trees_in v)) s → store_in (trees_in w) s ≡ store_in (trees_in v) s
  store_stays s within = fun_ext (λ (x : ℕ). by x (slice_get s.list.items x) refl)
    where
      by : (x : ℕ) (o : Option TermId) → slice_get s.list.items x ≡ o → tree_or_start (trees_in w) x o ≡ tree_or_start (trees_in v) x o
      by x None e = refl
      by x (Some t) e = tree_stays t.0 (part_before (length (trees_in v)) s.list.items x t within e)

  pub store_ready : (s : SymStore) → IsStoreReady (sorts_in v) (trees_in v) s → IsStoreReady (sorts_in w) (trees_in w) s
  store_ready s ready = (
    before-later (length (trees_in v)) (length (trees_in w)) longer s.list.items ready.0,
    subst (λ (f : Sorts). IsStoreSorted f (store_in (trees_in w) s)) (sym wider.sorts)
        (subst (IsStoreSorted (sorts_in v)) (sym (store_stays s ready.0)) ready.1),
  )

  pub stores_stay : (stores : PerCopy SymStore) → AreStoresReady (sorts_in v) (trees_in v) stores →
      stores_in (trees_in w) stores ≡ stores_in (trees_in v) stores
  stores_stay stores ready = fun_ext (λ (c : Copy). store_stays (of_copy stores c) (ready c).0)

  pub stores_ready : (stores : PerCopy SymStore) → AreStoresReady (sorts_in v) (trees_in v) stores →
      AreStoresReady (sorts_in w) (trees_in w) stores
  stores_ready stores ready c = store_ready (of_copy stores c) (ready c)

  pub stores_full : (stores : PerCopy SymStore) → AreStoresFull (sorts_in v) stores → AreStoresFull (sorts_in w) stores
  stores_full stores full = subst (λ (f : Sorts). AreStoresFull f stores) (sym wider.sorts) full

  -- formulas
  sort_stays : (n : ℕ) → n < length (trees_in v) →
      tree_sort (sorts_in w) (tree_at (trees_in w) n) ≡ tree_sort (sorts_in v) (tree_at (trees_in v) n)
  sort_stays n h = ap (λ (f : Sorts). tree_sort f (tree_at (trees_in w) n)) wider.sorts ∙ ap (tree_sort (sorts_in v)) (tree_stays n h)

  pub assertion_stays : (f : NumberedFormula) → IsFormulaWithin (length (trees_in v)) f →
      assertion_in (sorts_in w) (trees_in w) f ≡ assertion_in (sorts_in v) (trees_in v) f
  assertion_stays Yes h = refl
  assertion_stays No h = refl
  assertion_stays (Eq t u) h = λ i. plain.Eq (sort_stays t h.0 i) (tree_stays t h.0 i) (tree_stays u h.1 i)
  assertion_stays (Ne t u) h = λ i. plain.Ne (sort_stays t h.0 i) (tree_stays t h.0 i) (tree_stays u h.1 i)
  assertion_stays (Le t u) h = λ i. plain.Le (tree_stays t h.0 i) (tree_stays u h.1 i)
  assertion_stays (Lt t u) h = λ i. plain.Lt (tree_stays t h.0 i) (tree_stays u h.1 i)
  assertion_stays (And p q) h = λ i. plain.And (assertion_stays p h.0 i) (assertion_stays q h.1 i)
  assertion_stays (Or p q) h = λ i. plain.Or (assertion_stays p h.0 i) (assertion_stays q h.1 i)

  pub within_stays : (f : NumberedFormula) → IsFormulaWithin (length (trees_in v)) f → IsFormulaWithin (length (trees_in w)) f
  within_stays Yes h = tt
  within_stays No h = tt
  within_stays (Eq t u) h = let m = longer in (omega (arith, h.0), omega (arith, h.1))
  within_stays (Ne t u) h = let m = longer in (omega (arith, h.0), omega (arith, h.1))
  within_stays (Le t u) h = let m = longer in (omega (arith, h.0), omega (arith, h.1))
  within_stays (Lt t u) h = let m = longer in (omega (arith, h.0), omega (arith, h.1))
  within_stays (And p q) h = (within_stays p h.0, within_stays q h.1)
  within_stays (Or p q) h = (within_stays p h.0, within_stays q h.1)

  pub form_ready : (f : Formula) → IsFormReady (sorts_in v) (trees_in v) f → IsFormReady (sorts_in w) (trees_in w) f
  form_ready f ready = (
    within_stays (numbered f) ready.0,
    subst (λ (s : Sorts). IsFormSorted s (assertion_in (sorts_in w) (trees_in w) (numbered f))) (sym wider.sorts)
        (subst (IsFormSorted (sorts_in v)) (sym (assertion_stays (numbered f) ready.0)) ready.1),
  )

  pub forms_stay : (fs : List Formula) → AreFormsReady (sorts_in v) (trees_in v) fs →
      forms_in (sorts_in w) (trees_in w) fs ≡ forms_in (sorts_in v) (trees_in v) fs
  forms_stay [] ready = refl
  forms_stay (f ∷ fs) ready = λ i. assertion_stays (numbered f) ready.0.0 i ∷ forms_stay fs ready.1 i

  pub forms_ready : (fs : List Formula) → AreFormsReady (sorts_in v) (trees_in v) fs → AreFormsReady (sorts_in w) (trees_in w) fs
  forms_ready [] ready = tt
  forms_ready (f ∷ fs) ready = (form_ready f ready.0, forms_ready fs ready.1)

  -- states
  pub state_stays : (facts : List Assertion) (st : SymState) → IsStateReady (sorts_in v) (trees_in v) st
      → state_in (sorts_in w) (trees_in w) facts st ≡ state_in (sorts_in v) (trees_in v) facts st
  state_stays facts st ready =
      let stores = stores_stay st.stores ready.stores in
      let target = forms_stay st.target.value.list.items ready.target in
      λ i. record {
        rest = λ (c : Copy). rest_code (of_copy st.rests c);
        stores = stores i;
        facts = facts;
        target = target i;
        is_final = st.is_final;
      }

  pub state_ready : (st : SymState) → IsStateReady (sorts_in v) (trees_in v) st → IsStateReady (sorts_in w) (trees_in w) st
  state_ready st ready = record {
    rests = λ (c : Copy). subst (λ (f : Sorts). IsWellSorted f (rest_code (of_copy st.rests c))) (sym wider.sorts) (ready.rests c);
    stores = stores_ready st.stores ready.stores;
    target = forms_ready st.target.value.list.items ready.target;
    full = stores_full st.stores ready.full;
  }
