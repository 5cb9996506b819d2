-- Lists of indices that rise. Public clauses cite it.
use Rattle.std.specs.Prelude.{◌≡◌, ◌⊎◌, ℤ, ◌<ℤ◌, List, [], ◌∷◌}

-- an index is one of a list
abbrev pub IsOf : List ℤ → ℤ → Type 0
IsOf [] i = ⊥
IsOf (j ∷ rest) i = (i ≡ j) ⊎ IsOf rest i

-- each index is less than those behind it
abbrev pub Rise : List ℤ → Type 0
Rise [] = Unit {0}
Rise (i ∷ rest) = ((j : ℤ) → IsOf rest j → i <ℤ j) × Rise rest
