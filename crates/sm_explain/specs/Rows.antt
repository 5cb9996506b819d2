-- The lines of a cell in a table. Public clauses cite it.
use Rattle.std.specs.Prelude.{ℕ, ℤ, Bool, not, ◌&&◌, if◌then◌else◌, List, [], ◌++◌, codes}
use Rattle.std.specs.Fmt.{signed_decimal}
use Rattle.std.specs.Ordering.{int_eq}
use Rattle.sm_syntax.specs.claim.ConflictFree.{Copy, O, A, B, M}
use Rattle.sm_syntax.specs.claim.Keeps.{Cell, content}
use Rattle.sm_syntax.specs.claim.Stores.{Store}
use Rattle.sm_explain.specs.Cells.{cell_text}

-- four values are one
abbrev pub agree : ℤ → ℤ → ℤ → ℤ → Bool
agree base a b candidate = int_eq base a && int_eq a b && int_eq b candidate

-- a variant changed the value, and the candidate has another than the variant
abbrev pub loses_change : ℤ → ℤ → ℤ → Bool
loses_change base variant candidate = not (int_eq base variant) && not (int_eq candidate variant)

-- the base and both variants agree, and the candidate has another value
abbrev pub adds_change : ℤ → ℤ → ℤ → ℤ → Bool
adds_change base a b candidate = int_eq base a && int_eq a b && not (int_eq candidate base)

-- a value behind its label
abbrev pub labelled : List ℕ → ℤ → List ℕ
labelled label z = label ++ signed_decimal z

-- four values, as they stand behind their cell
abbrev pub values_text : ℤ → ℤ → ℤ → ℤ → List ℕ
values_text base a b candidate =
    labelled (codes " base ") base ++ labelled (codes " A ") a ++ labelled (codes " B ") b
    ++ labelled (codes " candidate ") candidate ++ codes "\n"

-- the words for a clause that fails
unfoldable pub words_of_a : List ℕ
words_of_a = codes "  A changed it, and the candidate doesn't have A's value\n"

unfoldable pub words_of_b : List ℕ
words_of_b = codes "  B changed it, and the candidate doesn't have B's value\n"

unfoldable pub words_of_candidate : List ℕ
words_of_candidate = codes "  base, A and B agree, and the candidate has another value\n"

-- words where a clause fails
abbrev pub said_if : Bool → List ℕ → List ℕ
said_if fails words = if fails then words else []

-- the words for each clause that fails, one a line
abbrev pub sentences : ℤ → ℤ → ℤ → ℤ → List ℕ
sentences base a b candidate =
    said_if (loses_change base a candidate) words_of_a
    ++ said_if (loses_change base b candidate) words_of_b
    ++ said_if (adds_change base a b candidate) words_of_candidate

-- the lines of a cell with four values, none where these are one
abbrev pub rows : List ℕ → ℤ → ℤ → ℤ → ℤ → List ℕ
rows cell base a b candidate =
    if agree base a b candidate then []
    else cell ++ values_text base a b candidate ++ sentences base a b candidate

-- the lines of a cell of four ends
abbrev pub cell_rows : List (List ℕ) → (Copy → Store) → Cell → List ℕ
cell_rows names end cell =
    rows (cell_text names cell) (content (end O) cell) (content (end A) cell)
    (content (end B) cell) (content (end M) cell)
