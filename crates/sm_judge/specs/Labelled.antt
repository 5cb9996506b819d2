-- Cited by public clauses: labels that tell classes of terms, and the first terms of these.
use Rattle.std.specs.Prelude.{◌≡◌, ℕ, suc, ◌==◌, Bool, if◌then◌else◌, slice_get, length, Option, Some, None, List, [], ◌∷◌}
use Rattle.sm_term.specs.Terms.{Tree}
use Rattle.sm_pairs.specs.Pairs.{Pairs}

-- two terms have one label exactly where they are equal
abbrev pub TellClasses : List Tree → Pairs → List ℕ → Type 0
TellClasses trees equal labels =
    (i j l m : ℕ) (t u : Tree) → slice_get trees i ≡ Some t → slice_get trees j ≡ Some u →
    slice_get labels i ≡ Some l → slice_get labels j ≡ Some m → (l == m) ≡ equal t u

-- labels of terms, by which their classes are told
pub record AreLabels (trees : List Tree) (equal : Pairs) (labels : List ℕ) : Type 0 where
  pub count : length labels ≡ length trees
  pub tell : TellClasses trees equal labels

-- the place, from one on, of the first of these labels that is l
abbrev pub first_label : ℕ → ℕ → List ℕ → Option ℕ
first_label l n [] = None
first_label l n (m ∷ ms) = if m == l then Some n else first_label l (suc n) ms

-- a place that is noted, or else this one
abbrev pub noted_or : Option ℕ → ℕ → ℕ
noted_or (Some m) n = m
noted_or None n = n

-- a place that is noted, or else this one where a test is passed
abbrev pub noted_first : Option ℕ → Bool → ℕ → Option ℕ
noted_first (Some m) passes n = Some m
noted_first None passes n = if passes then Some n else None

-- a place that is noted, or else what is found behind
abbrev pub noted_else : Option ℕ → Option ℕ → Option ℕ
noted_else (Some m) found = Some m
noted_else None found = found
