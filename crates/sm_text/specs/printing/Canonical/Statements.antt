-- Public clauses cite this file.
-- The canonical text of code and blocks, in pieces.
use Rattle.std.specs.Prelude.{ℕ, pos, List, [], ◌∷◌, ◌++◌}
use Rattle.sm_syntax.specs.declared.symbol.Mark.TheVariants as mark
use Rattle.sm_syntax.specs.claim.Syntax.{Condition, Code, End, Skip, Assign, Write, If, While, Hole}
use Rattle.sm_text.specs.printing.Pieces.{Piece, Gap, mark_piece, number_piece, name_piece, space, line_end, deeper, line}
use Rattle.sm_text.specs.printing.Canonical.Expressions.{element_pieces, expression_pieces, condition_pieces}

-- braces round lines, where the last stands after a margin
unfoldable pub braces : List ℕ → List Piece → List Piece
braces margin ps =
    mark_piece mark.OpenCurly ∷ line_end ∷ (ps ++ Gap margin ∷ mark_piece mark.CloseCurly ∷ [])

-- the branches of a choice
unfoldable pub branches : List Piece → List Piece → List Piece
branches ps qs = ps ++ space ∷ mark_piece mark.Else ∷ space ∷ qs

-- a guard: a condition in parentheses, before a block
unfoldable pub guard_pieces : Condition → List Piece
guard_pieces b =
    mark_piece mark.OpenRound ∷ (condition_pieces b ++ mark_piece mark.CloseRound ∷ space ∷ [])

-- code, each statement on a line of its own after a margin
abbrev pub code_pieces : List ℕ → Code → List Piece
code_pieces margin End = []
code_pieces margin (Skip k) =
    line margin (mark_piece mark.Skip ∷ mark_piece mark.Semicolon ∷ []) ++ code_pieces margin k
code_pieces margin (Assign x e k) =
    line margin
    (name_piece x ∷ space ∷ mark_piece mark.Becomes ∷ space
    ∷ (expression_pieces e ++ mark_piece mark.Semicolon ∷ []))
    ++ code_pieces margin k
code_pieces margin (Write a i e k) =
    line margin
    (element_pieces a (expression_pieces i)
    ++ space ∷ mark_piece mark.Becomes ∷ space
    ∷ (expression_pieces e ++ mark_piece mark.Semicolon ∷ []))
    ++ code_pieces margin k
code_pieces margin (If b c d k) =
    line margin
    (mark_piece mark.If ∷ space ∷ (guard_pieces b
    ++ branches (braces margin (code_pieces (deeper margin) c))
    (braces margin (code_pieces (deeper margin) d))))
    ++ code_pieces margin k
code_pieces margin (While b c k) =
    line margin
    (mark_piece mark.While ∷ space
    ∷ (guard_pieces b ++ braces margin (code_pieces (deeper margin) c)))
    ++ code_pieces margin k
code_pieces margin (Hole h k) =
    line margin (mark_piece mark.Question ∷ number_piece (pos h) ∷ mark_piece mark.Semicolon ∷ [])
    ++ code_pieces margin k

-- a block whose lines, but for the first, stand after a margin or deeper
abbrev pub block_pieces : List ℕ → Code → List Piece
block_pieces margin c = braces margin (code_pieces (deeper margin) c)
