-- The texts of names and cells. Public clauses cite it.
use Rattle.std.specs.Prelude.{ℕ, unwrap_or, List, [], ◌++◌, slice_get, codes}
use Rattle.std.specs.Fmt.{signed_decimal}
use Rattle.sm_syntax.specs.claim.Keeps.{Cell, Scalar, Element}

-- the text of a name, by the texts of all names; none where there are no more than x
abbrev pub name_text : List (List ℕ) → ℕ → List ℕ
name_text names x = unwrap_or (slice_get names x) []

-- the text of a cell, by the texts of all names
abbrev pub cell_text : List (List ℕ) → Cell → List ℕ
cell_text names (Scalar x) = name_text names x
cell_text names (Element a i) = name_text names a ++ codes "[" ++ signed_decimal i ++ codes "]"
