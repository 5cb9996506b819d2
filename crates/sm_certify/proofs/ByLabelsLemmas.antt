-- What labels tell of the classes of a branch, of whose terms those with one label are in one class.
use Rattle.sm_certify.proofs.Imports.{◌≡◌, ℕ, ◌<◌, true, Option, Some, None, List, length, get_or, slice_get, pos, refl, sym, ap, ◌∙◌, list_any, or_left, slice_get-map, slice_get-get_or, Tree, Lit, numbered, assertion_in, Formula, TableValue, trees_in, sorts_in, tree_at, TermId, AreEqualByLabels, Pairs, are_equal, setting_of, IsWhole, classes_by, branch_of, is_refuted, is_closed, trees_at, fact_at, some_refuted, equal_is_same}
use Rattle.std.proofs.Common.{option_map}
use Rattle.sm_terms.specs.Listing.{numbers_of}
use Rattle.sm_certify.proofs.GivenLemmas.{equal_seen}

-- the term at a place of a list that has all terms
term_at : (trees : List Tree) (ids : List TermId) → IsWhole trees ids → (i : ℕ) → i < length trees →
    (n : TermId) × (slice_get ids i ≡ Some n) × (tree_at trees n.0 ≡ tree_at trees i)
term_at trees ids whole i below = by (slice_get ids i) refl (sym mapped ∙ ap (λ (ts : List Tree). slice_get ts i) whole.trees_are ∙ at)
  where
    at : slice_get trees i ≡ Some (tree_at trees i)
    at = slice_get-get_or trees i (Lit (pos 0)) below

    tree_of : Option TermId → Option Tree
    tree_of o = option_map (tree_at trees) (option_map (λ (n : TermId). n.0) o)

    mapped : slice_get (trees_at trees (numbers_of ids)) i ≡ tree_of (slice_get ids i)
    mapped =
        slice_get-map (tree_at trees) (numbers_of ids) i ∙ ap (option_map (tree_at trees)) (slice_get-map (λ (n : TermId). n.0) ids i)

    by : (o : Option TermId) → slice_get ids i ≡ o → tree_of o ≡ Some (tree_at trees i) →
        (n : TermId) × (slice_get ids i ≡ Some n) × (tree_at trees n.0 ≡ tree_at trees i)
    by None none is = let wrong : None ≡ Some (tree_at trees i) = is in absurd cc
    by (Some n) some is = let same : tree_at trees n.0 ≡ tree_at trees i = cc in (n, some, same)

module _ (table : TableValue) (ids : List TermId) (facts : List Formula) (labels : List ℕ) (whole : IsWhole (trees_in table) ids)
    (told : AreEqualByLabels (classes_by table ids facts) labels) where
  -- terms of one label are equal on the branch
  pub equal_by_labels : (t u : TermId) → t.0 < length (trees_in table) → u.0 < length (trees_in table) → (l : ℕ) →
      slice_get labels t.0 ≡ Some l → slice_get labels u.0 ≡ Some l →
      (branch_of table facts).equal (tree_at (trees_in table) t.0) (tree_at (trees_in table) u.0) ≡ true
  equal_by_labels t u below_t below_u l at_t at_u =
      let trees = trees_in table in
      let s = setting_of (classes_by table ids facts) in
      let first = term_at trees ids whole t.0 below_t in
      let second = term_at trees ids whole u.0 below_u in
      let same = told.each t.0 u.0 l first.0 second.0 first.1 second.1 at_t at_u in
      ap (λ (e : Pairs). e (tree_at trees t.0) (tree_at trees u.0)) (sym (equal_seen table ids facts whole))
      ∙ ap (λ (x : Tree). are_equal s x (tree_at trees u.0)) (sym first.2)
      ∙ ap (are_equal s (tree_at trees first.0.0)) (sym second.2)
      ∙ (equal_is_same s (tree_at trees first.0.0) (tree_at trees second.0.0)).1 same

-- a branch with a fact that can't hold is closed
pub closed_by_fact : (table : TableValue) (facts : List Formula) (i : ℕ) (f : Formula) → i < length facts → f ≡ get_or facts i f →
    is_refuted (branch_of table facts) (assertion_in (sorts_in table) (trees_in table) (numbered f)) ≡ true →
    is_closed (branch_of table facts) ≡ true
closed_by_fact table facts i f below is bad =
    let b = branch_of table facts in
    or_left (list_any (is_refuted b) b.facts) _
    (sym (some_refuted b i (assertion_in (sorts_in table) (trees_in table) (numbered f))
    (fact_at (sorts_in table) (trees_in table) facts i f below is) bad))
