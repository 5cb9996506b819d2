-- Where an index stands among the cells of an array, or would stand. No public clause cites it.
use Rattle.std.specs.Prelude.{◌≡◌, ◌<◌, ◌≤◌, ℕ, ℤ, ◌<ℤ◌, List, length}
use Rattle.sm_eval.specs.Cells.{index_at}

-- the cell at a place has the index
pub record IsAt (l : List (ℤ × ℤ)) (i : ℤ) (p : ℕ) : Type 0 where
  pub in_range : p < length l
  pub same : index_at l p ≡ i

-- the index would stand at a place: smaller ones before it, and greater ones from it on
pub record IsGapFor (l : List (ℤ × ℤ)) (i : ℤ) (p : ℕ) : Type 0 where
  pub in_range : p ≤ length l
  pub smaller_before : (q : ℕ) → q < p → index_at l q <ℤ i
  pub greater_after : (q : ℕ) → p ≤ q → q < length l → i <ℤ index_at l q
