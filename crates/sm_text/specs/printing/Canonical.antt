-- Public clauses cite this file.
-- The canonical text of programs and tasks, in pieces, and of what they are made of.
pub mod Expressions
pub mod Statements
use Rattle.std.specs.Prelude.{ℕ, pos, Option, Some, None, List, [], ◌∷◌, ◌++◌}
use Rattle.sm_syntax.specs.declared.symbol.Mark.TheVariants as mark
use Rattle.sm_syntax.specs.declared.tree.Sort.{Sort}
use Rattle.sm_syntax.specs.claim.Syntax.{Condition, Code}
use Rattle.sm_syntax.specs.claim.Fill.{Fillings}
use Rattle.sm_syntax.specs.claim.ConflictFree.{Copy, O, A, B, M}
use Rattle.sm_syntax.specs.text.TaskGrammar.{declares}
use Rattle.sm_syntax.specs.text.Parts.{Parts}
use Rattle.sm_text.specs.printing.Pieces.{Piece, mark_piece, number_piece, name_piece, space, line_end, margin_at, line}
unfoldable pub use Expressions.*
unfoldable pub use Statements.*

-- declarations: each name on a line of its own
abbrev pub declaration_pieces : List (ℕ × Sort) → List Piece
declaration_pieces [] = []
declaration_pieces (d ∷ ds) =
    line [] (mark_piece (declares d.1) ∷ space ∷ name_piece d.0 ∷ mark_piece mark.Semicolon ∷ [])
    ++ declaration_pieces ds

-- names after the first, each after a comma and a space
abbrev pub more_names_pieces : List ℕ → List Piece
more_names_pieces [] = []
more_names_pieces (x ∷ xs) = mark_piece mark.Comma ∷ space ∷ name_piece x ∷ more_names_pieces xs

-- names with commas between them
abbrev pub names_pieces : List ℕ → List Piece
names_pieces [] = []
names_pieces (x ∷ xs) = name_piece x ∷ more_names_pieces xs

-- the outputs, on one line
unfoldable pub output_pieces : List ℕ → List Piece
output_pieces xs =
    line [] (mark_piece mark.Output ∷ space ∷ (names_pieces xs ++ mark_piece mark.Semicolon ∷ []))

-- the assumption, where there is one, on a line of its own
unfoldable pub assumption_pieces : Option Condition → List Piece
assumption_pieces None = []
assumption_pieces (Some b) =
    line []
    (mark_piece mark.Assume ∷ space ∷ (condition_pieces b ++ mark_piece mark.Semicolon ∷ []))

-- the shared block
unfoldable pub shared_pieces : Code → List Piece
shared_pieces c = line [] (mark_piece mark.Shared ∷ space ∷ block_pieces [] c)

-- fillings, inside the braces of their list
abbrev pub filling_pieces : Fillings → List Piece
filling_pieces [] = []
filling_pieces (f ∷ fs) =
    line (margin_at 1)
    (mark_piece mark.Question ∷ number_piece (pos f.0) ∷ space ∷ block_pieces (margin_at 1) f.1)
    ++ filling_pieces fs

-- fillings in braces, after the word that begins their list
unfoldable pub list_pieces : Fillings → List Piece
list_pieces fs = space ∷ (braces [] (filling_pieces fs) ++ line_end ∷ [])

-- the lists of the four copies
unfoldable pub lists_pieces : (Copy → Fillings) → List Piece
lists_pieces fillings =
    mark_piece mark.Base ∷ (list_pieces (fillings O)
    ++ mark_piece mark.VariantA ∷ (list_pieces (fillings A)
    ++ mark_piece mark.VariantB ∷ (list_pieces (fillings B)
    ++ mark_piece mark.Candidate ∷ list_pieces (fillings M))))

-- a program: its declarations, its outputs and its block
unfoldable pub program_pieces : List (ℕ × Sort) → List ℕ → Code → List Piece
program_pieces declared outputs c =
    declaration_pieces declared ++ (output_pieces outputs ++ shared_pieces c)

-- a task
unfoldable pub task_pieces : Parts → List Piece
task_pieces t =
    declaration_pieces t.declared
    ++ (output_pieces t.outputs
    ++ (assumption_pieces t.assumed
    ++ (shared_pieces t.shared
    ++ lists_pieces t.fillings)))
