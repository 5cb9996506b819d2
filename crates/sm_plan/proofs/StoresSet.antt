-- A store with another term for a name.
use Rattle.sm_plan.proofs.Imports.{◌≡◌, ℕ, zero, suc, ◌<◌, ◌==◌, Bool, true, false, if◌then◌else◌, Some, List, [], ◌∷◌, length, slice_get, slice_set, refl, sym, ap, ◌∙◌, subst, eqb-true, eqb-false, fun_ext, Tree, with_term, tree_or_start, store_in, IsStoreWithin, SymStore, TableValue, trees_in, AreBefore, TermId, AddsTerms, tree_got, there, store-more, within_more, get_set}

set_other : {T : Type 0} (l : List T) (x y : ℕ) (t : T) → (y ≡ x → ⊥) → slice_get (slice_set l x t) y ≡ slice_get l y
set_other [] x y t h = refl
set_other (a ∷ l) zero zero t h = absurd (h refl)
set_other (a ∷ l) zero (suc y) t h = refl
set_other (a ∷ l) (suc x) zero t h = refl
set_other (a ∷ l) (suc x) (suc y) t h = set_other l x y t (λ (e : y ≡ x). h (ap suc e))

-- the store with a written list
pub store_set : (trees : List Tree) (s u : SymStore) (x : ℕ) (t : TermId) (tree : Tree) → x < length s.list.items →
    u.list.items ≡ slice_set s.list.items x t
    → slice_get trees t.0 ≡ Some tree → store_in trees u ≡ with_term (store_in trees s) x tree
store_set trees s u x t tree h e got =
    fun_ext (λ (y : ℕ). ap (λ (l : List TermId). tree_or_start trees y (slice_get l y)) e ∙ by y (y == x) refl)
  where
    by : (y : ℕ) (b : Bool) → (y == x) ≡ b → tree_or_start trees y (slice_get (slice_set s.list.items x t) y)
        ≡ (if b then tree else store_in trees s y)
    by y true is =
        ap (λ (z : ℕ). tree_or_start trees y (slice_get (slice_set s.list.items x t) z)) (eqb-true y x is)
        ∙ ap (tree_or_start trees y) (get_set s.list.items x t h) ∙ tree_got trees t.0 tree got
    by y false is = ap (tree_or_start trees y) (set_other s.list.items x y t (eqb-false y x is))

-- over a table that has grown, a store with a written list has the new term for the name
pub store_written : (v w : TableValue) → AddsTerms v w → (s u : SymStore) (x : ℕ) (t : TermId) (tree : Tree) →
    IsStoreWithin (length (trees_in v)) s → x < length s.list.items
    → u.list.items ≡ slice_set s.list.items x t → slice_get (trees_in w) t.0 ≡ Some tree →
    store_in (trees_in w) u ≡ with_term (store_in (trees_in v) s) x tree
store_written v w grows s u x t tree within h e got = store_set (trees_in w) s u x t tree h e got
    ∙ ap (λ f. with_term f x tree) (store-more v w grows s within)

set_before : (n : ℕ) (l : List TermId) (x : ℕ) (t : TermId) → t.0 < n → AreBefore n l → AreBefore n (slice_set l x t)
set_before n [] x t h all = tt
set_before n (a ∷ l) zero t h all = (h, all.1)
set_before n (a ∷ l) (suc x) t h all = (all.0, set_before n l x t h all.1)

pub within_set : (trees : List Tree) (s u : SymStore) (x : ℕ) (t : TermId) (tree : Tree) → u.list.items ≡ slice_set s.list.items x t →
    slice_get trees t.0 ≡ Some tree
    → IsStoreWithin (length trees) s → IsStoreWithin (length trees) u
within_set trees s u x t tree e got all = subst (AreBefore (length trees)) (sym e)
    (set_before (length trees) s.list.items x t (there trees t.0 tree got) all)

-- over a table that has grown, a store with a written list has only terms of that table
pub within_written : (v w : TableValue) → AddsTerms v w → (s u : SymStore) (x : ℕ) (t : TermId) (tree : Tree) →
    IsStoreWithin (length (trees_in v)) s
    → u.list.items ≡ slice_set s.list.items x t → slice_get (trees_in w) t.0 ≡ Some tree → IsStoreWithin (length (trees_in w)) u
within_written v w grows s u x t tree within e got = within_set (trees_in w) s u x t tree e got (within_more v w grows s within)
