-- What is known of terms with their slots replaced stays known where the table grows.
use Rattle.sm_plan.proofs.Imports.{◌≡◌, ℕ, ◌<◌, ◌≤◌, Option, Some, None, List, length, slice_get, sym, ap, ◌∙◌, arith, fun_ext, length-append, Copy, of_copy, PerCopy, SymStore, fill_term, SymbolicStore, TableValue, trees_in, sorts_in, tree_at, TermId, AddsTerms, Tree, stays_got, store-more, within_more, sorted_more, tree_at-more, IsFilled, AreKnown, AreStoresReady, stores_in}

module _ (v w : TableValue) (grows : AddsTerms v w) where
  -- there are as many terms or more, each with its tree
  pub longer : length (trees_in v) ≤ length (trees_in w)
  longer = let long = ap length grows.trees.1 ∙ length-append (trees_in v) grows.trees.0 in omega arith

  pub tree_more : (n : ℕ) → n < length (trees_in v) → tree_at (trees_in w) n ≡ tree_at (trees_in v) n
  tree_more n h = ap (λ (l : List Tree). tree_at l n) grows.trees.1 ∙ tree_at-more (trees_in v) grows.trees.0 n h

  module _ (stores : PerCopy SymStore) (ready : AreStoresReady (sorts_in v) (trees_in v) stores) where
    -- the stores of the copies stay, and so does what is asked of them
    pub stores_more : stores_in (trees_in w) stores ≡ stores_in (trees_in v) stores
    stores_more = fun_ext (λ (c : Copy). store-more v w grows (of_copy stores c) (ready c).0)

    pub stores_ready : AreStoresReady (sorts_in w) (trees_in w) stores
    stores_ready c = (
      within_more v w grows (of_copy stores c) (ready c).0,
      sorted_more v w grows (of_copy stores c) (ready c).0 (ready c).1,
    )

    -- the tree that a number should have is the same
    pub fill_more : (n : ℕ) → n < length (trees_in v) →
        fill_term (stores_in (trees_in w) stores) (tree_at (trees_in w) n)
        ≡ fill_term (stores_in (trees_in v) stores) (tree_at (trees_in v) n)
    fill_more n h =
        ap (λ (s : Copy → SymbolicStore). fill_term s (tree_at (trees_in w) n)) stores_more
        ∙ ap (fill_term (stores_in (trees_in v) stores)) (tree_more n h)

    -- a number that has it, before and after
    pub filled_more : (n : ℕ) (id : TermId) → n < length (trees_in v) → IsFilled v (stores_in (trees_in v) stores) n id →
        IsFilled w (stores_in (trees_in w) stores) n id
    filled_more n id h e =
        stays_got v w grows id.0 (fill_term (stores_in (trees_in v) stores) (tree_at (trees_in v) n)) e
        ∙ ap (λ (t : Tree). Some t) (sym (fill_more n h))

    pub filled_from : (n : ℕ) (id : TermId) → n < length (trees_in v) → IsFilled w (stores_in (trees_in w) stores) n id →
        slice_get (trees_in w) id.0 ≡ Some (fill_term (stores_in (trees_in v) stores) (tree_at (trees_in v) n))
    filled_from n id h e = e ∙ ap (λ (t : Tree). Some t) (fill_more n h)

    pub filled_by : (n : ℕ) (id : TermId) → n < length (trees_in v) →
        slice_get (trees_in w) id.0 ≡ Some (fill_term (stores_in (trees_in v) stores) (tree_at (trees_in v) n)) →
        IsFilled w (stores_in (trees_in w) stores) n id
    filled_by n id h e = e ∙ ap (λ (t : Tree). Some t) (sym (fill_more n h))

    -- all numbers that are known stay known where the table grows
    pub known_more : (known : ℕ → Option TermId) → AreKnown v (stores_in (trees_in v) stores) known →
        AreKnown w (stores_in (trees_in w) stores) known
    known_more known kept n id e =
        let here = kept n id e in
        let long = longer in
        let first = here.0 in
        (omega arith, filled_more n id here.0 here.1)

-- nothing is known at first
pub known_none : (v : TableValue) (s : Copy → SymbolicStore) (known : ℕ → Option TermId) → ((n : ℕ) → known n ≡ None) → AreKnown v s known
known_none v s known none n id e = absurd (let wrong : None ≡ Some id = sym (none n) ∙ e in cc)
