-- Public clauses cite this file.
-- The canonical text of expressions and conditions, in pieces.
use Rattle.std.specs.Prelude.{ℕ, Bool, true, false, List, [], ◌∷◌, ◌++◌}
use Rattle.sm_syntax.specs.declared.symbol.Mark.{Mark}
use Rattle.sm_syntax.specs.declared.symbol.Mark.TheVariants as mark
use Rattle.sm_syntax.specs.claim.Syntax.{Expression, Lit, Var, Read, Neg, Plus, Minus, Times, Condition, Yes, No, Compare, Not, And, Or}
use Rattle.sm_syntax.specs.text.ConditionGrammar.{comparison}
use Rattle.sm_text.specs.printing.Pieces.{Piece, mark_piece, number_piece, name_piece, space}

-- a binary operator between its parts, with a space on both sides
abbrev pub between : List Piece → Mark → List Piece → List Piece
between ps m qs = ps ++ space ∷ mark_piece m ∷ space ∷ qs

-- whether an operand stands without parentheses: a number, a name or a read
abbrev pub is_atom : Expression → Bool
is_atom (Lit z) = true
is_atom (Var x) = true
is_atom (Read a i) = true
is_atom (Neg e) = false
is_atom (Plus d e) = false
is_atom (Minus d e) = false
is_atom (Times d e) = false

-- an operand, in parentheses unless it is an atom
abbrev pub operand : Bool → List Piece → List Piece
operand true ps = ps
operand false ps = mark_piece mark.OpenRound ∷ (ps ++ mark_piece mark.CloseRound ∷ [])

-- an element of an array, by its index
abbrev pub element_pieces : ℕ → List Piece → List Piece
element_pieces a index =
    name_piece a ∷ mark_piece mark.OpenSquare ∷ (index ++ mark_piece mark.CloseSquare ∷ [])

-- an expression
abbrev pub expression_pieces : Expression → List Piece
expression_pieces (Lit z) = number_piece z ∷ []
expression_pieces (Var x) = name_piece x ∷ []
expression_pieces (Read a i) = element_pieces a (expression_pieces i)
expression_pieces (Neg e) = mark_piece mark.Minus ∷ operand (is_atom e) (expression_pieces e)
expression_pieces (Plus d e) =
    between (operand (is_atom d) (expression_pieces d)) mark.Plus
    (operand (is_atom e) (expression_pieces e))
expression_pieces (Minus d e) =
    between (operand (is_atom d) (expression_pieces d)) mark.Minus
    (operand (is_atom e) (expression_pieces e))
expression_pieces (Times d e) =
    between (operand (is_atom d) (expression_pieces d)) mark.Star
    (operand (is_atom e) (expression_pieces e))

-- an expression as an operand
abbrev pub operand_pieces : Expression → List Piece
operand_pieces e = operand (is_atom e) (expression_pieces e)

-- whether a part of a condition stands without brackets: a constant or a comparison
abbrev pub is_test : Condition → Bool
is_test Yes = true
is_test No = true
is_test (Compare op d e) = true
is_test (Not b) = false
is_test (And b c) = false
is_test (Or b c) = false

-- a part of a condition, in brackets unless it is a test
abbrev pub part : Bool → List Piece → List Piece
part true ps = ps
part false ps = mark_piece mark.OpenSquare ∷ (ps ++ mark_piece mark.CloseSquare ∷ [])

-- a condition
abbrev pub condition_pieces : Condition → List Piece
condition_pieces Yes = mark_piece mark.True ∷ []
condition_pieces No = mark_piece mark.False ∷ []
condition_pieces (Compare op d e) =
    between (expression_pieces d) (comparison op) (expression_pieces e)
condition_pieces (Not b) = mark_piece mark.Bang ∷ part (is_test b) (condition_pieces b)
condition_pieces (And b c) =
    between (part (is_test b) (condition_pieces b)) mark.Both
    (part (is_test c) (condition_pieces c))
condition_pieces (Or b c) =
    between (part (is_test b) (condition_pieces b)) mark.Either
    (part (is_test c) (condition_pieces c))

-- a condition as a part of another
abbrev pub part_pieces : Condition → List Piece
part_pieces b = part (is_test b) (condition_pieces b)
