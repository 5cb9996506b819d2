-- A line of words, as bytes. Public clauses cite it.
use Rattle.std.specs.Prelude.{ℕ, List, [], ◌∷◌, ◌++◌, codes}

-- words, each with a space before it
abbrev pub spaced : List (List ℕ) → List ℕ
spaced [] = []
spaced (word ∷ rest) = codes " " ++ word ++ spaced rest

-- a line of words
abbrev pub line_of : List ℕ → List (List ℕ) → List ℕ
line_of first rest = first ++ spaced rest ++ codes "\n"
