-- The numbers of an array as a list of cells. Public clauses cite it.
-- A cell is an index with the number there. An index that isn't listed has 0.
use Rattle.std.specs.Prelude.{◌≢◌, ◌<◌, ℕ, ℤ, pos, ◌<ℤ◌, if◌then◌else◌, List, [], ◌∷◌, length, slice_index_or}
use Rattle.std.specs.Ordering.{int_eq}

-- the number at an index, 0 where none is listed
abbrev pub listed : List (ℤ × ℤ) → ℤ → ℤ
listed [] i = pos 0
listed (c ∷ rest) i = if int_eq i c.0 then c.1 else listed rest i

-- the index of the cell at a place of the list
abbrev pub index_at : List (ℤ × ℤ) → ℕ → ℤ
index_at l p = let cell = slice_index_or l p (pos 0, pos 0) in cell.0

-- the number of the cell at a place of the list
abbrev pub cell_number_at : List (ℤ × ℤ) → ℕ → ℤ
cell_number_at l p = let cell = slice_index_or l p (pos 0, pos 0) in cell.1

-- the indices rise, so none comes twice
abbrev pub IsAscending : List (ℤ × ℤ) → Type 0
IsAscending l = (p q : ℕ) → p < q → q < length l → index_at l p <ℤ index_at l q

-- no cell has 0
abbrev pub HasNoZero : List (ℤ × ℤ) → Type 0
HasNoZero l = (p : ℕ) → p < length l → cell_number_at l p ≢ pos 0

-- the one list of cells of an array
pub record AreCells (l : List (ℤ × ℤ)) : Type 0 where
  pub ascending : IsAscending l
  pub no_zero : HasNoZero l
