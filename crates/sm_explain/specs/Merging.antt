-- Two lists of indices merged, and texts that grow. No public clause cites it.
use Rattle.std.specs.Prelude.{◌≡◌, ◌⊎◌, ℕ, ℤ, ◌<ℤ◌, int_lt, if◌then◌else◌, Option, Some, None, List, [], ◌∷◌, ◌++◌, map}
use Rattle.std.specs.Ordering.{int_eq}
use Rattle.sm_explain.specs.Indices.{IsOf, Rise}

-- the indices of cells
abbrev pub firsts : List (ℤ × ℤ) → List ℤ
firsts cells = map (λ (c : ℤ × ℤ). c.0) cells

-- the first index of a list, where it has any
abbrev pub first : List ℤ → Option ℤ
first [] = None
first (i ∷ rest) = Some i

-- the lesser of two indices, where there are both
abbrev pub lesser : Option ℤ → Option ℤ → Option ℤ
lesser None j = j
lesser (Some i) None = Some i
lesser (Some i) (Some j) = if int_lt j i then Some j else Some i

-- a list without an index that stands first in it
abbrev pub past : ℤ → List ℤ → List ℤ
past i [] = []
past i (j ∷ rest) = if int_eq j i then rest else j ∷ rest

-- some of two lists is merged, and these are what is left of them
pub record AreMerging (left right left_rest right_rest merged : List ℤ) : Type 0 where
  pub rise : Rise merged
  pub left_rise : Rise left_rest
  pub right_rise : Rise right_rest
  pub left_above : (i j : ℤ) → IsOf merged i → IsOf left_rest j → i <ℤ j
  pub right_above : (i j : ℤ) → IsOf merged i → IsOf right_rest j → i <ℤ j
  pub left_kept : (i : ℤ) → IsOf left i → IsOf merged i ⊎ IsOf left_rest i
  pub right_kept : (i : ℤ) → IsOf right i → IsOf merged i ⊎ IsOf right_rest i

-- a text grows by one of these
abbrev pub Grows : (List ℕ → Type 0) → List ℕ → List ℕ → Type 0
Grows Is old new = (more : List ℕ) × Is more × (new ≡ old ++ more)
