-- The table of an input: the cells of outputs at which the four ends differ. Public clauses cite
-- it.
use Rattle.std.specs.Prelude.{◌≡◌, ◌↔◌, ℕ, ℤ, false, List, [], ◌∷◌, ◌++◌, map}
use Rattle.std.specs.List.{concat}
use Rattle.sm_syntax.specs.declared.tree.Sort.{Sort}
use Rattle.sm_syntax.specs.declared.tree.Sort.TheVariants.{Num, Arr}
use Rattle.sm_syntax.specs.claim.ConflictFree.{Copy, O, A, B, M, program_of}
use Rattle.sm_syntax.specs.claim.Keeps.{Cell, Scalar, Element, content}
use Rattle.sm_syntax.specs.claim.Stores.{Store}
use Rattle.sm_syntax.specs.text.Parts.{Parts, task_of}
use Rattle.sm_replay.specs.Violations.{AreEnds}
use Rattle.sm_explain.specs.Indices.{IsOf, Rise}
use Rattle.sm_explain.specs.Rows.{agree, cell_rows}

-- the four ends differ at a cell
abbrev pub DifferAt : (Copy → Store) → Cell → Type 0
DifferAt end cell =
    agree (content (end O) cell) (content (end A) cell) (content (end B) cell)
    (content (end M) cell) ≡ false

-- the lines of an array's cells at some indices
abbrev pub element_rows : List (List ℕ) → (Copy → Store) → ℕ → List ℤ → List ℕ
element_rows names end a indices =
    concat (map (λ (i : ℤ). cell_rows names end (Element a i)) indices)

-- the lines of an array: those of its cells at which the ends differ, by rising index
pub record AreElementRows
    (names : List (List ℕ)) (end : Copy → Store) (a : ℕ) (text : List ℕ) : Type 0 where
  pub indices : List ℤ
  pub rise : Rise indices
  pub each : (i : ℤ) → IsOf indices i ↔ DifferAt end (Element a i)
  pub is : text ≡ element_rows names end a indices

-- the lines of an output: those of its cells at which the ends differ
abbrev pub AreOutputRows : List (List ℕ) → (Copy → Store) → ℕ → Sort → List ℕ → Type 0
AreOutputRows names end x Num text = text ≡ cell_rows names end (Scalar x)
AreOutputRows names end a Arr text = AreElementRows names end a text

-- the lines of outputs, one behind the other
abbrev pub AreRows : List (List ℕ) → (Copy → Store) → List (ℕ × Sort) → List ℕ → Type 0
AreRows names end [] text = text ≡ []
AreRows names end (output ∷ rest) text =
    (first later : List ℕ) × AreOutputRows names end output.0 output.1 first
    × AreRows names end rest later × (text ≡ first ++ later)

-- the four programs end, and these are the lines of the outputs at their ends
pub record IsTable (t : Parts) (s : Store) (n : ℕ) (text : List ℕ) : Type 0 where
  pub end : Copy → Store
  pub ends : AreEnds (program_of (task_of t)) s n end
  pub rows : AreRows t.names end (task_of t).outputs text
