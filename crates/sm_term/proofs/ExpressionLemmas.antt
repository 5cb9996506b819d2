-- Terms of expressions over a table that grows.
use Rattle.sm_term.proofs.Imports.{◌≡◌, ℕ, zero, suc, pos, ◌<◌, ◌≤◌, true, Option, Some, None, List, [], ◌∷◌, ◌++◌, length, slice_get, refl, sym, ap, ◌∙◌, subst, arith, is_some, slice_get_within, slice_get_past, slice_get-get_or, get_or_from_slice_get, length-append, Expression, Var, Plus, Minus, Times, Sorts, IsWellSortedExpression, Sort, Num, Tree, tree_sort, IsDeclaredIn, IsStoreSorted, SymbolicStore, term_of, tree_or_start, store_in, IsStoreWithin, SymStore, has_sort, TableValue, trees_in, sorts_in, tree_at, AddsTerms}
use Rattle.std.proofs.Math.Path.{fun_ext}
use Rattle.sm_syntax.specs.claim.Syntax.{Lit, Read, Neg}
use Rattle.sm_term.specs.Terms as tree
use Rattle.sm_term.specs.Tables.{TermId}
use Rattle.sm_term.proofs.SameTermsLemmas.{same_sort_is}
use Rattle.sm_term.proofs.TermsLemmas.{part_before}
use Rattle.sm_term.proofs.TreesLemmas.{tree_at-more, before-later}

-- a number that has a tree has it where the table has grown
pub stays_got : (v w : TableValue) → AddsTerms v w → (n : ℕ) (t : Tree) → slice_get (trees_in v) n ≡ Some t → slice_get (trees_in w) n ≡ Some t
stays_got v w grows n t e = ap (λ l. slice_get l n) grows.trees.1 ∙ over (trees_in v) n e
  where
    over : (l : List Tree) (n : ℕ) → slice_get l n ≡ Some t → slice_get (l ++ grows.trees.0) n ≡ Some t
    over [] n e = absurd cc
    over (x ∷ l) zero e = e
    over (x ∷ l) (suc n) e = over l n e

-- the tree at a number that has it
pub tree_got : (trees : List Tree) (n : ℕ) (t : Tree) → slice_get trees n ≡ Some t → tree_at trees n ≡ t
tree_got trees n t e = get_or_from_slice_get trees n t (tree.Lit (pos 0)) e

-- its sort, by the test
pub sort_got : (sorts : Sorts) (trees : List Tree) (n : TermId) (t : Tree) (sort : Sort) → slice_get trees n.0 ≡ Some t → tree_sort sorts t ≡ sort → has_sort sorts trees n sort ≡ true
sort_got sorts trees n t sort e s = (same_sort_is (tree_sort sorts (tree_at trees n.0)) sort).1 (ap (tree_sort sorts) (tree_got trees n.0 t e) ∙ s)

-- the store that a list stands for stays where the table grows
pub store-more : (v w : TableValue) → AddsTerms v w → (s : SymStore) → IsStoreWithin (length (trees_in v)) s → store_in (trees_in w) s ≡ store_in (trees_in v) s
store-more v w grows s within = fun_ext (λ (x : ℕ). by x (slice_get s.list.items x) refl)
  where
    by : (x : ℕ) (o : Option TermId) → slice_get s.list.items x ≡ o → tree_or_start (trees_in w) x o ≡ tree_or_start (trees_in v) x o
    by x None e = refl
    by x (Some t) e = ap (λ l. tree_at l t.0) grows.trees.1 ∙ tree_at-more (trees_in v) grows.trees.0 t.0 (part_before (length (trees_in v)) s.list.items x t within e)

-- so what is asked of it stays
pub within_more : (v w : TableValue) → AddsTerms v w → (s : SymStore) → IsStoreWithin (length (trees_in v)) s → IsStoreWithin (length (trees_in w)) s
within_more v w grows s within =
    let long = ap length grows.trees.1 ∙ length-append (trees_in v) grows.trees.0 in
    before-later (length (trees_in v)) (length (trees_in w)) (omega arith) s.list.items within

pub sorted_more : (v w : TableValue) → AddsTerms v w → (s : SymStore) → IsStoreWithin (length (trees_in v)) s → IsStoreSorted (sorts_in v) (store_in (trees_in v) s) → IsStoreSorted (sorts_in w) (store_in (trees_in w) s)
sorted_more v w grows s within sorted =
    subst (λ f. IsStoreSorted f (store_in (trees_in w) s)) (sym grows.sorts) (subst (IsStoreSorted (sorts_in v)) (sym (store-more v w grows s within)) sorted)

pub well-more : (v w : TableValue) → AddsTerms v w → (e : Expression) → IsWellSortedExpression (sorts_in v) e → IsWellSortedExpression (sorts_in w) e
well-more v w grows e well = subst (λ f. IsWellSortedExpression f e) (sym grows.sorts) well

-- a term that was made over the store of a later table
pub made-more : (u v w : TableValue) → AddsTerms u v → (s : SymStore) → IsStoreWithin (length (trees_in u)) s → (e : Expression) (n : ℕ)
    → slice_get (trees_in w) n ≡ Some (term_of e (store_in (trees_in v) s)) → slice_get (trees_in w) n ≡ Some (term_of e (store_in (trees_in u) s))
made-more u v w grows s within e n made = made ∙ ap (λ f. Some (term_of e f)) (store-more u v grows s within)

-- a declared name
pub named_declared : (sorts : Sorts) (x : ℕ) (sort : Sort) → sorts x ≡ Some sort → IsDeclaredIn sorts x
named_declared sorts x sort e = ap is_some e

-- the term of a well-sorted expression is a number
pub expression_number : (sorts : Sorts) (f : SymbolicStore) → IsStoreSorted sorts f → (e : Expression) → IsWellSortedExpression sorts e → tree_sort sorts (term_of e f) ≡ Num
expression_number sorts f s (Lit z) w = refl
expression_number sorts f s (Var x) w = (s.declared x Num w).1
expression_number sorts f s (Read a i) w = refl
expression_number sorts f s (Neg e) w = refl
expression_number sorts f s (Plus d e) w = refl
expression_number sorts f s (Minus d e) w = refl
expression_number sorts f s (Times d e) w = refl

-- the term of a well-sorted expression is a number in a later table
pub number_made : (v w : TableValue) → AddsTerms v w → (s : SymStore) → IsStoreSorted (sorts_in v) (store_in (trees_in v) s) → (e : Expression) → IsWellSortedExpression (sorts_in v) e
    → tree_sort (sorts_in w) (term_of e (store_in (trees_in v) s)) ≡ Num
number_made v w grows s sorted e well =
    subst (λ f. tree_sort f (term_of e (store_in (trees_in v) s)) ≡ Num) (sym grows.sorts) (expression_number (sorts_in v) (store_in (trees_in v) s) sorted e well)

pub name_made : (v w : TableValue) → AddsTerms v w → (s : SymStore) → IsStoreSorted (sorts_in v) (store_in (trees_in v) s) → (x : ℕ) (sort : Sort) → sorts_in v x ≡ Some sort
    → tree_sort (sorts_in w) (store_in (trees_in v) s x) ≡ sort
name_made v w grows s sorted x sort is =
    subst (λ f. tree_sort f (store_in (trees_in v) s x) ≡ sort) (sym grows.sorts) (sorted.declared x sort is).1

-- a part that a term takes: its number is there, and it has its sort
pub there : (trees : List Tree) (n : ℕ) (t : Tree) → slice_get trees n ≡ Some t → n < length trees
there trees n t e = slice_get_within trees n t e

-- the term that a store has for a name, and the start where it has none
pub name_stored : (trees : List Tree) (s : SymStore) (x : ℕ) (t : TermId) → IsStoreWithin (length trees) s → slice_get s.list.items x ≡ Some t → slice_get trees t.0 ≡ Some (store_in trees s x)
name_stored trees s x t within e =
    slice_get-get_or trees t.0 (tree.Lit (pos 0)) (part_before (length trees) s.list.items x t within e) ∙ ap (λ o. Some (tree_or_start trees x o)) (sym e)

pub name_started : (trees : List Tree) (s : SymStore) (x : ℕ) → length s.list.items ≤ x → tree.Start x ≡ store_in trees s x
name_started trees s x past = ap (tree_or_start trees x) (sym (slice_get_past s.list.items x past))
