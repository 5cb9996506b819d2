-- A state in which one copy has another rest and another store.
use Rattle.sm_plan.proofs.Imports.{◌≡◌, ℕ, Bool, true, false, if◌then◌else◌, List, ◌++◌, length, slice_get, ◌<◌, refl, sym, ap, ◌∙◌, subst, fun_ext, Code, Copy, O, A, B, M, Sorts, IsWellSorted, of_copy, is_copy, Assertion, SymbolicStore, tree_or_start, store_in, SymStore, IsDeclaredIn, IsStoreSorted, Tree, TableValue, trees_in, sorts_in, AreBefore, TermId, ExtendsTable, with_copy, moved, with_facts, rest_code, forms_in, stores_in, state_in, AreFormsReady, IsStoreReady, IsStoreFull, IsStateReady}
use Rattle.sm_plan.specs.Views.{SymState}
use Rattle.sm_plan.proofs.TablesWiden.{store_stays, store_ready, forms_stay, forms_ready}

-- a copy that is given twice has what it is given last
pub given_twice : {T : Type 0} (f : Copy → T) (c : Copy) (v w : T) → with_copy (with_copy f c v) c w ≡ with_copy f c w
given_twice f c v w = fun_ext (λ (d : Copy). by d (is_copy c d))
  where
    by : (d : Copy) (b : Bool) → (if b then w else (if b then v else f d)) ≡ (if b then w else f d)
    by d true = refl
    by d false = refl

-- a function of what each copy has
pub over_given : {T U : Type 0} (g : T → U) (f : Copy → T) (c : Copy) (v : T) →
    (λ (d : Copy). g (with_copy f c v d)) ≡ with_copy (λ (d : Copy). g (f d)) c (g v)
over_given g f c v = fun_ext (λ (d : Copy). by d (is_copy c d))
  where
    by : (d : Copy) (b : Bool) → g (if b then v else f d) ≡ (if b then g v else g (f d))
    by d true = refl
    by d false = refl

-- what holds of the new one and of the old ones
each_given : {T : Type 0} (P : T → Type 0) (f : Copy → T) (c : Copy) (v : T) → P v → ((d : Copy) → P (f d)) → (d : Copy) →
    P (with_copy f c v d)
each_given P f c v new old d = by (is_copy c d)
  where
    by : (b : Bool) → P (if b then v else f d)
    by true = new
    by false = old d

-- a copy that is given what it has
pub given_same : {T : Type 0} (f : Copy → T) (c d : Copy) → with_copy f c (f c) d ≡ f d
given_same f O O = refl
given_same f O A = refl
given_same f O B = refl
given_same f O M = refl
given_same f A O = refl
given_same f A A = refl
given_same f A B = refl
given_same f A M = refl
given_same f B O = refl
given_same f B A = refl
given_same f B B = refl
given_same f B M = refl
given_same f M O = refl
given_same f M A = refl
given_same f M B = refl
given_same f M M = refl

-- the numbers of a store, and the store that numbers stand for
abbrev pub numbers_of : SymStore → List TermId
numbers_of s = s.list.items

abbrev pub listed : List Tree → List TermId → SymbolicStore
listed trees l x = tree_or_start trees x (slice_get l x)

abbrev pub AreListed : Sorts → List Tree → List TermId → Type 0
AreListed sorts trees l = AreBefore (length trees) l × IsStoreSorted sorts (listed trees l)

abbrev AreAllListed : Sorts → List TermId → Type 0
AreAllListed sorts l = (x : ℕ) → IsDeclaredIn sorts x → x < length l

-- another rest and another store of one copy, over a wider table
module _ (v w : TableValue) (wider : ExtendsTable v w) (st next : SymState) (c : Copy) (k : Code) (store : SymStore)
    (rests : (d : Copy) → rest_code (of_copy next.rests d) ≡ with_copy (λ (e : Copy). rest_code (of_copy st.rests e)) c k d)
    (stores : (d : Copy) → numbers_of (of_copy next.stores d)
    ≡ with_copy (λ (e : Copy). numbers_of (of_copy st.stores e)) c (numbers_of store) d)
    (target : next.target.value.list.items ≡ st.target.value.list.items) (final : next.is_final ≡ st.is_final)
    (ready : IsStateReady (sorts_in v) (trees_in v) st) where
  rest_moved : (λ (d : Copy). rest_code (of_copy next.rests d)) ≡ with_copy (λ (d : Copy). rest_code (of_copy st.rests d)) c k
  rest_moved = fun_ext rests

  stores_moved : stores_in (trees_in w) next.stores ≡ with_copy (stores_in (trees_in v) st.stores) c (store_in (trees_in w) store)
  stores_moved =
      fun_ext (λ (d : Copy). ap (listed (trees_in w)) (stores d))
      ∙ over_given (listed (trees_in w)) (λ (e : Copy). numbers_of (of_copy st.stores e)) c (numbers_of store)
      ∙ ap (λ (f : Copy → SymbolicStore). with_copy f c (store_in (trees_in w) store))
      (fun_ext (λ (d : Copy). store_stays v w wider (of_copy st.stores d) (ready.stores d).0))

  target_moved : forms_in (sorts_in w) (trees_in w) next.target.value.list.items
      ≡ forms_in (sorts_in v) (trees_in v) st.target.value.list.items
  target_moved = ap (forms_in (sorts_in w) (trees_in w)) target ∙ forms_stay v w wider st.target.value.list.items ready.target

  -- what it stands for
  pub moved_is : (facts more : List Assertion) →
      state_in (sorts_in w) (trees_in w) (facts ++ more) next
      ≡ with_facts (moved (state_in (sorts_in v) (trees_in v) facts st) c k (store_in (trees_in w) store)) more
  moved_is facts more = λ i. record {
    rest = rest_moved i;
    stores = stores_moved i;
    facts = facts ++ more;
    target = target_moved i;
    is_final = final i;
  }

  -- it can be gone on from
  pub moved_ready : IsWellSorted (sorts_in v) k → IsStoreReady (sorts_in w) (trees_in w) store → IsStoreFull (sorts_in v) store
      → IsStateReady (sorts_in w) (trees_in w) next
  moved_ready well here full = record {
    rests = λ (d : Copy). subst (IsWellSorted (sorts_in w)) (sym (rests d))
        (each_given (IsWellSorted (sorts_in w)) (λ (e : Copy). rest_code (of_copy st.rests e)) c k (resort k well)
        (λ (e : Copy). resort (rest_code (of_copy st.rests e)) (ready.rests e)) d);
    stores = λ (d : Copy). subst (AreListed (sorts_in w) (trees_in w)) (sym (stores d))
        (each_given (AreListed (sorts_in w) (trees_in w)) (λ (e : Copy). numbers_of (of_copy st.stores e)) c (numbers_of store) here
        (λ (e : Copy). store_ready v w wider (of_copy st.stores e) (ready.stores e)) d);
    target = subst (AreFormsReady (sorts_in w) (trees_in w)) (sym target) (forms_ready v w wider st.target.value.list.items ready.target);
    full = λ (d : Copy). subst (AreAllListed (sorts_in w)) (sym (stores d))
        (each_given (AreAllListed (sorts_in w)) (λ (e : Copy). numbers_of (of_copy st.stores e)) c (numbers_of store) (refull store full)
        (λ (e : Copy). refull (of_copy st.stores e) (ready.full e)) d);
  }
    where
      resort : (r : Code) → IsWellSorted (sorts_in v) r → IsWellSorted (sorts_in w) r
      resort r h = subst (λ (f : Sorts). IsWellSorted f r) (sym wider.sorts) h

      refull : (s : SymStore) → IsStoreFull (sorts_in v) s → IsStoreFull (sorts_in w) s
      refull s h = subst (λ (f : Sorts). IsStoreFull f s) (sym wider.sorts) h

-- what was exchanged twice
pub exchanged : {T U : Type 0} (g : T → U) (f0 f1 f2 : Copy → T) (c : Copy) (a b : T) → f1 ≡ with_copy f0 c a → f2 ≡ with_copy f1 c b
    → (d : Copy) → g (f2 d) ≡ with_copy (λ (e : Copy). g (f0 e)) c (g b) d
exchanged g f0 f1 f2 c a b first second d =
    ap (λ f. g (f d)) (second ∙ ap (λ f. with_copy f c b) first ∙ given_twice f0 c a b) ∙ ap (λ f. f d) (over_given g f0 c b)
