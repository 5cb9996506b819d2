-- Formulas with their slots replaced, over tables that grow.
use Rattle.sm_plan.proofs.Imports.{◌≡◌, ℕ, zero, suc, ◌<◌, arith, Some, List, [], ◌∷◌, ◌++◌, map, length, get_or, take, ◌+◌, slice_get, refl, sym, ap, ◌∙◌, subst, map-append, map_more, PerCopy, Copy, Sorts, SymStore, Assertion, numbered, assertion_in, IsFormulaWithin, Formula, fill_term, at_stores, all_at_stores, tree_sort, IsSorted, IsFormSorted, AreFormsSorted, SymbolicStore, TableValue, trees_in, sorts_in, tree_at, AddsTerms, Tree, tree_got, there, assertion-more, form_kept, IsFormReady, AreFormsReady, AreStoresReady, forms_in, stores_in}
use Rattle.sm_term.specs.Assertions as plain
use Rattle.sm_term.specs.Formulas as form
use Rattle.sm_plan.proofs.FillingGrows.{stores_more}
use Rattle.sm_plan.proofs.SortedTerms.{filled_sorted}

-- the terms of formulas are in a table of so many terms
abbrev pub AreFormsWithin : ℕ → List Formula → Type 0
AreFormsWithin count [] = Unit {0}
AreFormsWithin count (f ∷ fs) = IsFormulaWithin count (numbered f) × AreFormsWithin count fs

pub within_push : (count : ℕ) (fs : List Formula) (f : Formula) → AreFormsWithin count fs → IsFormulaWithin count (numbered f) →
    AreFormsWithin count (fs ++ f ∷ [])
within_push count [] f within new = (new, tt)
within_push count (g ∷ fs) f within new = (within.0, within_push count fs f within.1 new)

-- ready formulas are those, and are sorted
pub ready_within : (sorts : Sorts) (trees : List Tree) (fs : List Formula) → AreFormsReady sorts trees fs → AreFormsWithin (length trees) fs
ready_within sorts trees [] ready = tt
ready_within sorts trees (f ∷ fs) ready = (ready.0.0, ready_within sorts trees fs ready.1)

pub ready_sorted : (sorts : Sorts) (trees : List Tree) (fs : List Formula) → AreFormsReady sorts trees fs →
    AreFormsSorted sorts (forms_in sorts trees fs)
ready_sorted sorts trees [] ready = tt
ready_sorted sorts trees (f ∷ fs) ready = (ready.0.1, ready_sorted sorts trees fs ready.1)

pub ready_from : (sorts : Sorts) (trees : List Tree) (fs : List Formula) → AreFormsWithin (length trees) fs →
    AreFormsSorted sorts (forms_in sorts trees fs) → AreFormsReady sorts trees fs
ready_from sorts trees [] within sorted = tt
ready_from sorts trees (f ∷ fs) within sorted = ((within.0, sorted.0), ready_from sorts trees fs within.1 sorted.1)

pub ready_at : (sorts : Sorts) (trees : List Tree) (fs : List Formula) (i : ℕ) (f : Formula) → AreFormsReady sorts trees fs →
    i < length fs → f ≡ get_or fs i f → IsFormReady sorts trees f
ready_at sorts trees fs i f ready h e = subst (IsFormReady sorts trees) (sym e) (of fs i ready h)
  where
    of : (gs : List Formula) (j : ℕ) → AreFormsReady sorts trees gs → j < length gs → IsFormReady sorts trees (get_or gs j f)
    of [] j good g = absurd (omega arith)
    of (x ∷ gs) zero good g = good.0
    of (x ∷ gs) (suc j) good g = of gs j good.1 (omega arith)

module _ (v w : TableValue) (grows : AddsTerms v w) where
  -- a formula that is ready stays so
  pub form_ready : (f : Formula) → IsFormReady (sorts_in v) (trees_in v) f → IsFormReady (sorts_in w) (trees_in w) f
  form_ready f ready = (
    form_kept v w grows (numbered f) ready.0,
    subst (IsFormSorted (sorts_in w)) (sym (assertion-more v w grows (numbered f) ready.0))
        (subst (λ (sorts : Sorts). IsFormSorted sorts (assertion_in (sorts_in v) (trees_in v) (numbered f))) (sym grows.sorts) ready.1),
  )

  pub forms_ready : (fs : List Formula) → AreFormsReady (sorts_in v) (trees_in v) fs → AreFormsReady (sorts_in w) (trees_in w) fs
  forms_ready [] ready = tt
  forms_ready (f ∷ fs) ready = (form_ready f ready.0, forms_ready fs ready.1)

  -- the terms of formulas stay there, and each formula stands for the same
  pub within_later : (fs : List Formula) → AreFormsWithin (length (trees_in v)) fs → AreFormsWithin (length (trees_in w)) fs
  within_later [] within = tt
  within_later (f ∷ fs) within = (form_kept v w grows (numbered f) within.0, within_later fs within.1)

  pub forms_more : (fs : List Formula) → AreFormsWithin (length (trees_in v)) fs →
      forms_in (sorts_in w) (trees_in w) fs ≡ forms_in (sorts_in v) (trees_in v) fs
  forms_more [] within = refl
  forms_more (f ∷ fs) within = (λ k. assertion-more v w grows (numbered f) within.0 k ∷ forms_more fs within.1 k)

  -- with its slots replaced, too
  module _ (stores : PerCopy SymStore) (ready : AreStoresReady (sorts_in v) (trees_in v) stores) where
    abbrev s : Copy → SymbolicStore
    s = stores_in (trees_in v) stores

    pub at_more : (f : Formula) → IsFormReady (sorts_in v) (trees_in v) f →
        at_stores (stores_in (trees_in w) stores) (assertion_in (sorts_in w) (trees_in w) (numbered f))
        ≡ at_stores s (assertion_in (sorts_in v) (trees_in v) (numbered f))
    at_more f good =
        ap (λ (t : Copy → SymbolicStore). at_stores t (assertion_in (sorts_in w) (trees_in w) (numbered f)))
        (stores_more v w grows stores ready)
        ∙ ap (at_stores s) (assertion-more v w grows (numbered f) good.0)

    -- the sort of the left side of an equation stays
    left_sort : (t a : ℕ) → IsSorted (sorts_in v) (tree_at (trees_in v) t) →
        slice_get (trees_in w) a ≡ Some (fill_term s (tree_at (trees_in v) t)) →
        tree_sort (sorts_in w) (tree_at (trees_in w) a) ≡ tree_sort (sorts_in v) (tree_at (trees_in v) t)
    left_sort t a sorted e =
        ap (tree_sort (sorts_in w)) (tree_got (trees_in w) a _ e)
        ∙ ap (λ (sorts : Sorts). tree_sort sorts (fill_term s (tree_at (trees_in v) t))) grows.sorts
        ∙ (filled_sorted (sorts_in v) s (λ (c : Copy). (ready c).1) (tree_at (trees_in v) t) sorted).1

    -- formulas of two terms that are made
    module _ (t u a b : ℕ) (first : slice_get (trees_in w) a ≡ Some (fill_term s (tree_at (trees_in v) t)))
        (second : slice_get (trees_in w) b ≡ Some (fill_term s (tree_at (trees_in v) u))) where
      pub both_there : (a < length (trees_in w)) × (b < length (trees_in w))
      both_there = (there (trees_in w) a _ first, there (trees_in w) b _ second)

      pub eq_made : IsSorted (sorts_in v) (tree_at (trees_in v) t) →
          assertion_in (sorts_in w) (trees_in w) (form.Eq a b) ≡ at_stores s (assertion_in (sorts_in v) (trees_in v) (form.Eq t u))
      eq_made sorted = (λ k. plain.Eq (left_sort t a sorted first k) (tree_got (trees_in w) a _ first k)
          (tree_got (trees_in w) b _ second k))

      pub ne_made : IsSorted (sorts_in v) (tree_at (trees_in v) t) →
          assertion_in (sorts_in w) (trees_in w) (form.Ne a b) ≡ at_stores s (assertion_in (sorts_in v) (trees_in v) (form.Ne t u))
      ne_made sorted = (λ k. plain.Ne (left_sort t a sorted first k) (tree_got (trees_in w) a _ first k)
          (tree_got (trees_in w) b _ second k))

      pub le_made : assertion_in (sorts_in w) (trees_in w) (form.Le a b)
          ≡ at_stores s (assertion_in (sorts_in v) (trees_in v) (form.Le t u))
      le_made = (λ k. plain.Le (tree_got (trees_in w) a _ first k) (tree_got (trees_in w) b _ second k))

      pub lt_made : assertion_in (sorts_in w) (trees_in w) (form.Lt a b)
          ≡ at_stores s (assertion_in (sorts_in v) (trees_in v) (form.Lt t u))
      lt_made = (λ k. plain.Lt (tree_got (trees_in w) a _ first k) (tree_got (trees_in w) b _ second k))

-- one formula more of a list
pub made_push : (v w : TableValue) (s : Copy → SymbolicStore) (fs first : List Formula) (i : ℕ) (f g : Formula) → i < length fs →
    f ≡ get_or fs i f →
    forms_in (sorts_in w) (trees_in w) first ≡ all_at_stores s (forms_in (sorts_in v) (trees_in v) (take i fs)) →
    assertion_in (sorts_in w) (trees_in w) (numbered g) ≡ at_stores s (assertion_in (sorts_in v) (trees_in v) (numbered f)) →
    forms_in (sorts_in w) (trees_in w) (first ++ g ∷ []) ≡ all_at_stores s (forms_in (sorts_in v) (trees_in v) (take (i + 1) fs))
made_push v w s fs first i f g h e made one =
    let form = λ (x : Formula). assertion_in (sorts_in v) (trees_in v) (numbered x) in
    map-append (λ (x : Formula). assertion_in (sorts_in w) (trees_in w) (numbered x)) first (g ∷ [])
    ∙ (λ k. made k ++ one k ∷ [])
    ∙ sym (ap (map (at_stores s)) (map_more form fs i f h) ∙ map-append (at_stores s) (map form (take i fs)) (form (get_or fs i f) ∷ [])
    ∙ ap (λ (x : Formula). map (at_stores s) (map form (take i fs)) ++ at_stores s (form x) ∷ []) (sym e))
