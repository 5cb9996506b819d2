-- What a search finds among the cells of an array, and what an edit at that place makes of them.
use Rattle.sm_eval.proofs.Imports.{◌≡◌, ◌≢◌, ◌<◌, ◌≤◌, ◌+◌, ◌-◌, ℕ, ℤ, pos, true, ◌⊎◌, inl, inr, List, length, get_or, set, Result, Ok, Err, IfOk, IfErr, sym, ap, subst, ◌∙◌, arith, ◌<ℤ◌, insert, remove, int_cmp, int_eq, ordering_index, fun_ext, cases_eq, cases_lt, Decides-int_eq, length-set, get_or-set_same, get_or-set_other, IsNonDecreasingBy-from_default, with_element, listed, index_at, cell_number_at, IsAscending, AreCells, IsAt, IsGapFor}
use Rattle.std.specs.List.Sorted.{IsSearchInRange, IsBinarySearchResult, IsNonDecreasingBy}
use Rattle.std.proofs.lemmas.Cmp.{int_ranked}
use Rattle.std.proofs.lemmas.List.Edits.{length-insert, get_or-insert_below, get_or-insert_at, get_or-insert_above, length-remove, get_or-remove_below, get_or-remove_above}
use Rattle.sm_eval.proofs.Integers.{not_below_itself, ranks_rise}
use Rattle.sm_eval.proofs.Listed.{NoneBefore, NoneAfter, listed_absent, listed_present, listed-set, listed-insert, zero_there, listed-remove}
use Rattle.sm_lemmas.proofs.Numbers.{order}

-- an order of numbers that are equal to others
moved : (a b x y : ℤ) → a ≡ x → b ≡ y → x <ℤ y → a <ℤ b
moved a b x y first second below = subst (λ (v : ℤ). v <ℤ b) (sym first) (subst (λ (v : ℤ). x <ℤ v) (sym second) below)

module _ (l : List (ℤ × ℤ)) (ascending : IsAscending l) (i : ℤ) where
  -- a place that isn't later has no later comparison with an index
  comparison_rises : (p q : ℕ) → ((p ≡ q) ⊎ (p ≡ q → ⊥)) → p ≤ q → q < length l
      → ordering_index (int_cmp (index_at l p) i) ≤ ordering_index (int_cmp (index_at l q) i)
  comparison_rises p q (inl same) le in_range =
      let ranks : ordering_index (int_cmp (index_at l p) i) ≡ ordering_index (int_cmp (index_at l q) i) =
      ap (λ (r : ℕ). ordering_index (int_cmp (index_at l r) i)) same in
      omega arith
  comparison_rises p q (inr differs) le in_range = ranks_rise (index_at l p) (index_at l q) i (ascending p q (omega arith) in_range)

  -- the comparisons with an index rise along the list, as a binary search asks
  comparisons_rise : IsNonDecreasingBy (λ (c : ℤ × ℤ). ordering_index (int_cmp c.0 i)) l
  comparisons_rise =
      IsNonDecreasingBy-from_default (λ (c : ℤ × ℤ). ordering_index (int_cmp c.0 i)) l (pos 0, pos 0)
      (λ (p q : ℕ) (le : p ≤ q) (in_range : q < length l). comparison_rises p q (cases_eq p q) le in_range)

  -- a binary search ends at the cell of the index, or at the gap for it
  pub searched : (r : Result ℕ ℕ) → IsSearchInRange r (length l) → IsBinarySearchResult (λ (c : ℤ × ℤ). int_cmp c.0 i) l r
      → record { found : IfOk r (IsAt l i); absent : IfErr r (IsGapFor l i) }
  searched (Ok p) in_range equal =
      record { found = record { in_range = in_range; same = int_ranked _ i _ (sym (equal (pos 0, pos 0))) }; absent = tt }
  searched (Err p) in_range parted = record {
    found = tt;
    absent = record {
      in_range = in_range;
      smaller_before = λ (q : ℕ) (lt : q < p). int_ranked _ i _ (sym ((parted comparisons_rise).0 q (pos 0, pos 0) (omega arith) lt));
      greater_after =
          λ (q : ℕ) (le : p ≤ q) (lt : q < length l). int_ranked _ i _ (sym ((parted comparisons_rise).1 q (pos 0, pos 0) le lt));
    };
  }

module _ (l : List (ℤ × ℤ)) (cells : AreCells l) (i : ℤ) (p : ℕ) (at : IsAt l i p) where
  -- no other cell has the index
  none_before : NoneBefore l i p
  none_before q lt same = not_below_itself (index_at l q) (index_at l p) (cells.ascending q p lt at.in_range) (same ∙ sym at.same)

  none_after : NoneAfter l i p
  none_after q lt in_range same = not_below_itself (index_at l p) (index_at l q) (cells.ascending p q lt in_range) (at.same ∙ sym same)

  -- the cell has the number of the index
  pub listed_at : listed l i ≡ cell_number_at l p
  listed_at = listed_present l i p at none_before

  -- another number there is a number at the index
  pub set_is : (z : ℤ) → listed (set l p (i, z)) ≡ with_element (listed l) i z
  set_is z = fun_ext (λ (q : ℤ). listed-set l i z p at none_before q)

  -- without the cell, the index has 0
  pub remove_is : listed (remove l p) ≡ with_element (listed l) i (pos 0)
  remove_is = fun_ext (λ (q : ℤ). listed-remove l i p at none_before none_after q)

  -- each place keeps its index
  index_at-set : (z : ℤ) (q : ℕ) → ((q ≡ p) ⊎ (q ≡ p → ⊥)) → index_at (set l p (i, z)) q ≡ index_at l q
  index_at-set z q (inl same) =
      ap (index_at (set l p (i, z))) same ∙ ap (λ (c : ℤ × ℤ). c.0) (get_or-set_same l p (i, z) (pos 0, pos 0) at.in_range) ∙ sym at.same ∙
      ap (index_at l) (sym same)
  index_at-set z q (inr differs) = ap (λ (c : ℤ × ℤ). c.0) (get_or-set_other l p q (i, z) (pos 0, pos 0) differs)

  -- no place has 0
  no_zero-set : (z : ℤ) → z ≢ pos 0 → (q : ℕ) → ((q ≡ p) ⊎ (q ≡ p → ⊥)) → q < length l → cell_number_at (set l p (i, z)) q ≢ pos 0
  no_zero-set z other q (inl same) lt zero =
      other (sym (ap (λ (c : ℤ × ℤ). c.1) (get_or-set_same l p (i, z) (pos 0, pos 0) at.in_range)) ∙
      ap (cell_number_at (set l p (i, z))) (sym same) ∙ zero)
  no_zero-set z other q (inr differs) lt zero =
      cells.no_zero q lt (sym (ap (λ (c : ℤ × ℤ). c.1) (get_or-set_other l p q (i, z) (pos 0, pos 0) differs)) ∙ zero)

  -- another number there leaves them cells
  pub set_cells : (z : ℤ) → z ≢ pos 0 → AreCells (set l p (i, z))
  set_cells z other =
      let long = length-set l p (i, z) in
      record {
        ascending = λ (q r : ℕ) (lt : q < r) (in_range : r < length (set l p (i, z))).
            moved _ _ _ _ (index_at-set z q (cases_eq q p)) (index_at-set z r (cases_eq r p)) (cells.ascending q r lt (omega arith));
        no_zero = λ (q : ℕ) (lt : q < length (set l p (i, z))). no_zero-set z other q (cases_eq q p) (omega arith);
      }

  -- without the cell, each place has its cell, or that of the next place
  shifted : (q : ℕ) → ((q < p) ⊎ (p ≤ q)) → q < length (remove l p) →
      (r : ℕ) × (get_or (remove l p) q (pos 0, pos 0) ≡ get_or l r (pos 0, pos 0)) × (r < length l)
  shifted q (inl before) lt =
      (q, get_or-remove_below l p (pos 0, pos 0) q before at.in_range, let long = length-remove l p at.in_range in omega arith)
  shifted q (inr after) lt =
      (q + 1, get_or-remove_above l p (pos 0, pos 0) q after at.in_range, let long = length-remove l p at.in_range in omega arith)

  -- the index at a place without the cell
  index_below : (q : ℕ) → q < p → index_at (remove l p) q ≡ index_at l q
  index_below q before = ap (λ (c : ℤ × ℤ). c.0) (get_or-remove_below l p (pos 0, pos 0) q before at.in_range)

  index_above : (q : ℕ) → p ≤ q → index_at (remove l p) q ≡ index_at l (q + 1)
  index_above q after = ap (λ (c : ℤ × ℤ). c.0) (get_or-remove_above l p (pos 0, pos 0) q after at.in_range)

  ascending-remove : (q r : ℕ) → ((q < p) ⊎ (p ≤ q)) → ((r < p) ⊎ (p ≤ r)) → q < r → r < length (remove l p)
      → index_at (remove l p) q <ℤ index_at (remove l p) r
  ascending-remove q r (inl first) (inl second) lt in_range =
      let long = length-remove l p at.in_range in
      moved _ _ _ _ (index_below q first) (index_below r second) (cells.ascending q r lt (omega arith))
  ascending-remove q r (inl first) (inr second) lt in_range =
      let long = length-remove l p at.in_range in
      moved _ _ _ _ (index_below q first) (index_above r second) (cells.ascending q (r + 1) (omega arith) (omega arith))
  ascending-remove q r (inr first) (inl second) lt in_range = absurd (omega arith)
  ascending-remove q r (inr first) (inr second) lt in_range =
      let long = length-remove l p at.in_range in
      moved _ _ _ _ (index_above q first) (index_above r second) (cells.ascending (q + 1) (r + 1) (omega arith) (omega arith))

  -- without the cell they are cells
  pub remove_cells : AreCells (remove l p)
  remove_cells = record {
    ascending =
        λ (q r : ℕ) (lt : q < r) (in_range : r < length (remove l p)). ascending-remove q r (cases_lt q p) (cases_lt r p) lt in_range;
    no_zero = λ (q : ℕ) (lt : q < length (remove l p)) (zero : cell_number_at (remove l p) q ≡ pos 0).
        let there = shifted q (cases_lt q p) lt in
        cells.no_zero there.0 there.2 (sym (ap (λ (c : ℤ × ℤ). c.1) there.1) ∙ zero);
  }

module _ (l : List (ℤ × ℤ)) (i : ℤ) (p : ℕ) (gap : IsGapFor l i p) where
  none_before_gap : NoneBefore l i p
  none_before_gap q lt same = not_below_itself (index_at l q) i (gap.smaller_before q lt) same

  none_at_all : (q : ℕ) → ((q < p) ⊎ (p ≤ q)) → q < length l → index_at l q ≢ i
  none_at_all q (inl before) lt same = not_below_itself (index_at l q) i (gap.smaller_before q before) same
  none_at_all q (inr after) lt same = not_below_itself i (index_at l q) (gap.greater_after q after lt) (sym same)

  -- an index that has a gap has 0
  pub listed_gap : listed l i ≡ pos 0
  listed_gap = listed_absent l i (λ (q : ℕ) (lt : q < length l). none_at_all q (cases_lt q p) lt)

  -- an index that has a gap changes nothing when it gets 0
  pub gap_has_zero : listed l ≡ with_element (listed l) i (pos 0)
  gap_has_zero =
      fun_ext (λ (q : ℤ). zero_there (int_eq q i) (listed l q)
      (λ (same : int_eq q i ≡ true). ap (listed l) ((Decides-int_eq q i).0 same) ∙ listed_gap))

  -- a new cell in the gap is a number at the index
  pub insert_is : (z : ℤ) → listed (insert l p (i, z)) ≡ with_element (listed l) i z
  insert_is z = fun_ext (λ (q : ℤ). listed-insert l i z p none_before_gap q)

  module _ (cells : AreCells l) (z : ℤ) where
    here : get_or (insert l p (i, z)) p (pos 0, pos 0) ≡ (i, z)
    here = get_or-insert_at l p (i, z) (pos 0, pos 0) gap.in_range

    below : (q : ℕ) → q < p → get_or (insert l p (i, z)) q (pos 0, pos 0) ≡ get_or l q (pos 0, pos 0)
    below q before = get_or-insert_below l p (i, z) (pos 0, pos 0) q before gap.in_range

    above : (q : ℕ) → p < q → get_or (insert l p (i, z)) q (pos 0, pos 0) ≡ get_or l (q - 1) (pos 0, pos 0)
    above q after =
        subst (λ (r : ℕ). get_or (insert l p (i, z)) r (pos 0, pos 0) ≡ get_or l (q - 1) (pos 0, pos 0)) {x = q - 1 + 1} (omega arith)
        (get_or-insert_above l p (i, z) (pos 0, pos 0) (q - 1) (omega arith) gap.in_range)

    ascending-insert : (q r : ℕ) → ((q < p) ⊎ ((q ≡ p) ⊎ (p < q))) → ((r < p) ⊎ ((r ≡ p) ⊎ (p < r))) → q < r → r < length l + 1 →
        index_at (insert l p (i, z)) q <ℤ index_at (insert l p (i, z)) r
    ascending-insert q r (inl a) (inl b) lt in_range =
        let le = gap.in_range in
        moved _ _ _ _ (ap (λ (c : ℤ × ℤ). c.0) (below q a)) (ap (λ (c : ℤ × ℤ). c.0) (below r b)) (cells.ascending q r lt (omega arith))
    ascending-insert q r (inl a) (inr (inl b)) lt in_range =
        moved _ _ _ _ (ap (λ (c : ℤ × ℤ). c.0) (below q a)) (ap (index_at (insert l p (i, z))) b ∙ ap (λ (c : ℤ × ℤ). c.0) here)
        (gap.smaller_before q a)
    ascending-insert q r (inl a) (inr (inr b)) lt in_range =
        moved _ _ _ _ (ap (λ (c : ℤ × ℤ). c.0) (below q a)) (ap (λ (c : ℤ × ℤ). c.0) (above r b))
        (cells.ascending q (r - 1) (omega arith) (omega arith))
    ascending-insert q r (inr (inl a)) (inr (inr b)) lt in_range =
        moved _ _ _ _ (ap (index_at (insert l p (i, z))) a ∙ ap (λ (c : ℤ × ℤ). c.0) here) (ap (λ (c : ℤ × ℤ). c.0) (above r b))
        (gap.greater_after (r - 1) (omega arith) (omega arith))
    ascending-insert q r (inr (inr a)) (inr (inr b)) lt in_range =
        moved _ _ _ _ (ap (λ (c : ℤ × ℤ). c.0) (above q a)) (ap (λ (c : ℤ × ℤ). c.0) (above r b))
        (cells.ascending (q - 1) (r - 1) (omega arith) (omega arith))
    ascending-insert q r (inr (inl a)) (inl b) lt in_range = absurd (omega arith)
    ascending-insert q r (inr (inl a)) (inr (inl b)) lt in_range = absurd (omega arith)
    ascending-insert q r (inr (inr a)) (inl b) lt in_range = absurd (omega arith)
    ascending-insert q r (inr (inr a)) (inr (inl b)) lt in_range = absurd (omega arith)

    no_zero-insert : z ≢ pos 0 → (q : ℕ) → ((q < p) ⊎ ((q ≡ p) ⊎ (p < q))) → q < length l + 1 → cell_number_at (insert l p (i, z)) q ≢ pos 0
    no_zero-insert other q (inl a) lt zero = let le = gap.in_range in
        cells.no_zero q (omega arith) (sym (ap (λ (c : ℤ × ℤ). c.1) (below q a)) ∙ zero)
    no_zero-insert other q (inr (inl a)) lt zero =
        other (sym (ap (cell_number_at (insert l p (i, z))) a ∙ ap (λ (c : ℤ × ℤ). c.1) here) ∙ zero)
    no_zero-insert other q (inr (inr a)) lt zero = cells.no_zero (q - 1) (omega arith) (sym (ap (λ (c : ℤ × ℤ). c.1) (above q a)) ∙ zero)

    -- a new cell in the gap leaves them cells
    pub insert_cells : z ≢ pos 0 → AreCells (insert l p (i, z))
    insert_cells other =
        let long = length-insert l p (i, z) gap.in_range in
        record {
          ascending =
              λ (q r : ℕ) (lt : q < r) (in_range : r < length (insert l p (i, z))).
              ascending-insert q r (order q p) (order r p) lt (omega arith);
          no_zero = λ (q : ℕ) (lt : q < length (insert l p (i, z))). no_zero-insert other q (order q p) (omega arith);
        }
