-- The text of a start store. Public clauses cite it.
use Rattle.std.specs.Prelude.{◌≡◌, ℕ, ℤ, List, [], ◌∷◌, ◌++◌, map, codes}
use Rattle.std.specs.Fmt.{signed_decimal}
use Rattle.std.specs.List.{concat}
use Rattle.sm_syntax.specs.declared.tree.Name.{Name}
use Rattle.sm_syntax.specs.declared.tree.Sort.{Sort}
use Rattle.sm_syntax.specs.claim.Keeps.{Cell, Scalar, Element}
use Rattle.sm_syntax.specs.claim.Stores.{Value, Number, Array, Store}
use Rattle.sm_eval.specs.Cells.{AreCells, listed}
use Rattle.sm_explain.specs.Cells.{cell_text}

-- declared names by their numbers
abbrev pub numbered : List (Name × Sort) → List (ℕ × Sort)
numbered list = map (λ (e : Name × Sort). (e.0.0, e.1)) list

-- the line of a cell with its value
abbrev pub start_line : List (List ℕ) → Cell → ℤ → List ℕ
start_line names cell z = cell_text names cell ++ codes " = " ++ signed_decimal z ++ codes "\n"

-- the lines of an array's cells
abbrev pub element_lines : List (List ℕ) → ℕ → List (ℤ × ℤ) → List ℕ
element_lines names a cells =
    concat (map (λ (c : ℤ × ℤ). start_line names (Element a c.0) c.1) cells)

-- the lines of a name's value: of an array those of its cells that don't have 0, by rising index
abbrev pub AreValueLines : List (List ℕ) → ℕ → Value → List ℕ → Type 0
AreValueLines names x (Number z) text = text ≡ start_line names (Scalar x) z
AreValueLines names x (Array f) text =
    (cells : List (ℤ × ℤ)) × AreCells cells × (f ≡ listed cells)
    × (text ≡ element_lines names x cells)

-- the lines of declared names in a store, one behind the other
abbrev pub AreStartLines : List (List ℕ) → List (ℕ × Sort) → Store → List ℕ → Type 0
AreStartLines names [] s text = text ≡ []
AreStartLines names (declared ∷ rest) s text =
    (first later : List ℕ) × AreValueLines names declared.0 (s declared.0) first
    × AreStartLines names rest s later × (text ≡ first ++ later)
