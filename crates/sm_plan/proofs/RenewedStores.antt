-- Stores in which names have new values, one name after the other.
use Rattle.sm_plan.proofs.Imports.{◌≡◌, ℕ, zero, suc, ◌+◌, ◌<◌, ◌==◌, ◌||◌, Bool, true, false, if◌then◌else◌, List, [], ◌∷◌, ◌++◌, length, get_or, take, slice_get, refl, sym, ap, ◌∙◌, subst, arith, fun_ext, eqb-true, map_more, Name, Copy, O, A, B, M, Code, assigns, is_in, Sorts, IsWellSorted, number_of, names_in_list, IsDeclaredIn, IsStoreSorted, SymbolicStore, with_term, Tree, Havoc, tree_or_start, store_in, IsStoreWithin, SymStore, TableValue, trees_in, sorts_in, TermId, AddsTerms, store-more, within_more, sorted_more, IsStoreReady, IsStoreFull, with_new}
use Rattle.std.proofs.lemmas.Bool.{eq-eqb}
use Rattle.sm_plan.proofs.SortedStates.{renewed_sorted}

pub number_below : (c : Copy) → number_of c < 4
number_below O = omega arith
number_below A = omega arith
number_below B = omega arith
number_below M = omega arith

-- a name of a list is among its names
pub name_among : (names : List Name) (i : ℕ) (d : Name) → i < length names → is_in (names_in_list names) (get_or names i d).0 ≡ true
name_among [] i d h = absurd (omega arith)
name_among (x ∷ names) zero d h = ap (λ (b : Bool). b || is_in (names_in_list names) x.0) (eq-eqb x.0 x.0 refl)
name_among (x ∷ names) (suc i) d h = or_right ((get_or names i d).0 == x.0) _ (name_among names i d (omega arith))
  where
    or_right : (p q : Bool) → q ≡ true → (p || q) ≡ true
    or_right true q e = refl
    or_right false q e = e

-- one name more
in_push : (names : List ℕ) (x y : ℕ) → is_in (names ++ x ∷ []) y ≡ (if y == x then true else is_in names y)
in_push [] x y = by (y == x)
  where
    by : (b : Bool) → (b || false) ≡ (if b then true else false)
    by true = refl
    by false = refl
in_push (n ∷ names) x y = ap (λ (b : Bool). (y == n) || b) (in_push names x y) ∙ by (y == n) (y == x) (is_in names y)
  where
    by : (p q r : Bool) → (p || (if q then true else r)) ≡ (if q then true else p || r)
    by true true r = refl
    by true false r = refl
    by false q r = refl

pub new_push : (k : ℕ) (c : Copy) (names : List Name) (i : ℕ) (d : Name) (s : SymbolicStore) → i < length names →
    with_term (with_new k c (is_in (names_in_list (take i names))) s) (get_or names i d).0 (Havoc k c (get_or names i d).0)
    ≡ with_new k c (is_in (names_in_list (take (i + 1) names))) s
new_push k c names i d s h =
    let x = (get_or names i d).0 in
    let first = names_in_list (take i names) in
    let more : names_in_list (take (i + 1) names) ≡ first ++ x ∷ [] = map_more (λ (n : Name). n.0) names i d h in
    fun_ext (λ (y : ℕ). by first x y (y == x) refl
    ∙ sym (ap (λ (l : List ℕ). with_new k c (is_in l) s y) more
    ∙ ap (λ (b : Bool). if b then Havoc k c y else s y) (in_push first x y)))
  where
    by : (first : List ℕ) (x y : ℕ) (b : Bool) → (y == x) ≡ b →
        (if y == x then Havoc k c x else with_new k c (is_in first) s y)
        ≡ (if (if y == x then true else is_in first y) then Havoc k c y else s y)
    by first x y true e = rw e (ap (Havoc k c) (sym (eqb-true y x e)))
    by first x y false e = rw e refl

-- tests that agree
pub new_same : (k : ℕ) (c : Copy) (f g : ℕ → Bool) (s : SymbolicStore) → ((x : ℕ) → f x ≡ g x) → with_new k c f s ≡ with_new k c g s
new_same k c f g s e = fun_ext (λ (x : ℕ). ap (λ (b : Bool). if b then Havoc k c x else s x) (e x))

-- new values for what code assigns are of the names' sorts
pub new_sorted : (sorts : Sorts) (k : ℕ) (c : Copy) (done : Code) (s : SymbolicStore) → IsWellSorted sorts done → IsStoreSorted sorts s →
    IsStoreSorted sorts (with_new k c (assigns done) s)
new_sorted sorts k c done s well good = renewed_sorted sorts k (λ (d : Copy). done) (λ (d : Copy). s) (λ (d : Copy). well)
    (λ (d : Copy). good) c

-- stores with the same terms
pub store_alike : (trees : List Tree) (s u : SymStore) → s.list.items ≡ u.list.items → store_in trees s ≡ store_in trees u
store_alike trees s u e = fun_ext (λ (x : ℕ). ap (λ (l : List TermId). tree_or_start trees x (slice_get l x)) e)

-- what is asked of code and of a store stays where the table grows
module _ (v w : TableValue) (grows : AddsTerms v w) where
  pub well_more : (done : Code) → IsWellSorted (sorts_in v) done → IsWellSorted (sorts_in w) done
  well_more done well = subst (λ (sorts : Sorts). IsWellSorted sorts done) (sym grows.sorts) well

  pub ready_more : (s : SymStore) → IsStoreReady (sorts_in v) (trees_in v) s → IsStoreReady (sorts_in w) (trees_in w) s
  ready_more s ready = (within_more v w grows s ready.0, sorted_more v w grows s ready.0 ready.1)

  pub full_more : (s : SymStore) → IsStoreFull (sorts_in v) s → IsStoreFull (sorts_in w) s
  full_more s full = subst (λ (sorts : Sorts). IsStoreFull sorts s) (sym grows.sorts) full

-- a store that was made over a table between two others
pub renewed_more : (u v w x : TableValue) → AddsTerms u v → AddsTerms w x → (k : ℕ) (c : Copy) (test : ℕ → Bool) (s made : SymStore) →
    IsStoreWithin (length (trees_in u)) s → IsStoreWithin (length (trees_in w)) made →
    store_in (trees_in w) made ≡ with_new k c test (store_in (trees_in v) s) →
    store_in (trees_in x) made ≡ with_new k c test (store_in (trees_in u) s)
renewed_more u v w x before after k c test s made first second e =
    store-more w x after made second ∙ e ∙ ap (with_new k c test) (store-more u v before s first)

-- each declared name of a list has its place in a store that is as long as a full one
pub place_inside : (sorts : Sorts) (names : List Name) (i : ℕ) (d : Name) (first s : SymStore) →
    ((x : ℕ) → is_in (names_in_list names) x ≡ true → IsDeclaredIn sorts x) → IsStoreFull sorts first →
    length s.list.items ≡ length first.list.items → i < length names → (get_or names i d).0 < length s.list.items
place_inside sorts names i d first s declared full same h =
    let inside = full (get_or names i d).0 (declared (get_or names i d).0 (name_among names i d h)) in
    omega arith
