-- The term of a write to an array's element, made after the terms of its index and its value.
use Rattle.sm_plan.proofs.Imports.{◌≡◌, ℕ, ◌<◌, ◌&&◌, true, Some, List, length, get_or, slice_get, refl, ap, ◌∙◌, and_from, slice_get_read, Expression, IsAsDeclared, IsWellSortedExpression, Num, Arr, Tree, has_sort, SymbolicStore, term_of, store_in, SymStore, TableValue, trees_in, sorts_in, tree_at, TermId, AddsTerms, grows-twice, store-more, stays_got, tree_got, sort_got, number_made, name_made, there, name_stored, IsStoreReady}
use Rattle.sm_term.specs.Terms.{Write}

module _ (u v w : TableValue) (first : AddsTerms u v) (second : AddsTerms v w) (s : SymStore) (ready : IsStoreReady (sorts_in u) (trees_in u) s)
    (a : ℕ) (i e : Expression)
    (name : IsAsDeclared (sorts_in u) a Arr) (place : a < length s.list.items) (i_well : IsWellSortedExpression (sorts_in u) i)
    (e_well : IsWellSortedExpression (sorts_in u) e)
    (array index value : TermId) (array_is : array ≡ get_or s.list.items a array)
    (index_is : slice_get (trees_in v) index.0 ≡ Some (term_of i (store_in (trees_in u) s)))
    (value_is : slice_get (trees_in w) value.0 ≡ Some (term_of e (store_in (trees_in v) s))) where
  both : AddsTerms u w
  both = grows-twice u v w first second

  abbrev f : SymbolicStore
  f = store_in (trees_in u) s

  abbrev trees : List Tree
  trees = trees_in w

  array_got : slice_get trees array.0 ≡ Some (f a)
  array_got = stays_got u w both array.0 (f a)
      (name_stored (trees_in u) s a array ready.0 (slice_get_read s.list.items (length s.list.items) a array refl place array_is))

  index_got : slice_get trees index.0 ≡ Some (term_of i f)
  index_got = stays_got v w second index.0 (term_of i f) index_is

  value_got : slice_get trees value.0 ≡ Some (term_of e f)
  value_got = value_is ∙ ap (λ (g : SymbolicStore). Some (term_of e g)) (store-more u v first s ready.0)

  -- its parts are there
  pub element_within : (array.0 < length trees) × (index.0 < length trees) × (value.0 < length trees)
  element_within = (there trees array.0 _ array_got, there trees index.0 _ index_got, there trees value.0 _ value_got)

  -- the array of a written element, its index and its value have their sorts
  pub element_fits : (has_sort (sorts_in w) trees array Arr
      && (has_sort (sorts_in w) trees index Num && has_sort (sorts_in w) trees value Num)) ≡ true
  element_fits =
      and_from _ _ (sort_got (sorts_in w) trees array _ Arr array_got (name_made u w both s ready.1 a Arr name))
      (and_from _ _ (sort_got (sorts_in w) trees index _ Num index_got (number_made u w both s ready.1 i i_well))
      (sort_got (sorts_in w) trees value _ Num value_got (number_made u w both s ready.1 e e_well)))

  -- it is the write
  pub element_tree : Write (tree_at trees array.0) (tree_at trees index.0) (tree_at trees value.0) ≡ Write (f a) (term_of i f) (term_of e f)
  element_tree =
      let p = tree_got trees array.0 _ array_got in
      let q = tree_got trees index.0 _ index_got in
      let r = tree_got trees value.0 _ value_got in
      λ k. Write (p k) (q k) (r k)
