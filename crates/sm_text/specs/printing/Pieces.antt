-- Public clauses cite this file.
-- A text as a list of pieces: tokens, each by its symbol, and the white space between them.
use Rattle.std.specs.Prelude.{ℕ, zero, suc, ℤ, unwrap_or, List, [], ◌∷◌, ◌++◌, codes, slice_get}
use Rattle.std.specs.Fmt.{signed_decimal}
use Rattle.std.specs.List.{flat_map}
use Rattle.sm_syntax.specs.declared.symbol.Mark.{Mark}
use Rattle.sm_syntax.specs.declared.symbol.Mark.TheVariants as mark
use Rattle.sm_syntax.specs.declared.symbol.Symbol.{Symbol}
use Rattle.sm_syntax.specs.declared.symbol.Symbol.TheVariants as s

-- a token by its symbol, or white space by its bytes
pub data Piece : Type 0 where
  Token : Symbol → Piece
  Gap : List ℕ → Piece

-- the reserved word or the sign that a mark stands for
abbrev pub spelling : Mark → List ℕ
spelling mark.Var = codes "var"
spelling mark.Array = codes "array"
spelling mark.Output = codes "output"
spelling mark.Shared = codes "shared"
spelling mark.Base = codes "base"
spelling mark.VariantA = codes "variant_a"
spelling mark.VariantB = codes "variant_b"
spelling mark.Candidate = codes "candidate"
spelling mark.Skip = codes "skip"
spelling mark.If = codes "if"
spelling mark.Else = codes "else"
spelling mark.While = codes "while"
spelling mark.True = codes "true"
spelling mark.False = codes "false"
spelling mark.Assume = codes "assume"
spelling mark.OpenRound = codes "("
spelling mark.CloseRound = codes ")"
spelling mark.OpenCurly = codes "{"
spelling mark.CloseCurly = codes "}"
spelling mark.OpenSquare = codes "["
spelling mark.CloseSquare = codes "]"
spelling mark.Semicolon = codes ";"
spelling mark.Comma = codes ","
spelling mark.Question = codes "?"
spelling mark.Becomes = codes "="
spelling mark.Plus = codes "+"
spelling mark.Minus = codes "-"
spelling mark.Star = codes "*"
spelling mark.Bang = codes "!"
spelling mark.Less = codes "<"
spelling mark.Greater = codes ">"
spelling mark.Equal = codes "=="
spelling mark.Unequal = codes "!="
spelling mark.AtMost = codes "<="
spelling mark.AtLeast = codes ">="
spelling mark.Both = codes "&&"
spelling mark.Either = codes "||"

-- the bytes of a piece, where these are the texts of the names: a number is in decimal, with no
-- leading zero
abbrev pub bytes_of : List (List ℕ) → Piece → List ℕ
bytes_of names (Token (s.Mark m)) = spelling m
bytes_of names (Token (s.Number z)) = signed_decimal z
bytes_of names (Token (s.Name x)) = unwrap_or (slice_get names x.0) []
bytes_of names (Gap bytes) = bytes

-- the text that pieces make
abbrev pub pieces_text : List (List ℕ) → List Piece → List ℕ
pieces_text names ps = flat_map (bytes_of names) ps

-- the symbols of the tokens among pieces
abbrev pub symbols_in : List Piece → List Symbol
symbols_in [] = []
symbols_in (Token t ∷ ps) = t ∷ symbols_in ps
symbols_in (Gap bytes ∷ ps) = symbols_in ps

-- a reserved word or a sign
abbrev pub mark_piece : Mark → Piece
mark_piece m = Token (s.Mark m)

-- a number
abbrev pub number_piece : ℤ → Piece
number_piece z = Token (s.Number z)

-- a name
abbrev pub name_piece : ℕ → Piece
name_piece x = Token (s.Name (record { 0 = x }))

-- a single space
abbrev pub space : Piece
space = Gap (codes " ")

-- the end of a line
abbrev pub line_end : Piece
line_end = Gap (10 ∷ [])

-- the margin, the white space at the front of a line, one level deeper: two spaces more
abbrev pub deeper : List ℕ → List ℕ
deeper margin = 32 ∷ 32 ∷ margin

-- the margin of a level
abbrev pub margin_at : ℕ → List ℕ
margin_at zero = []
margin_at (suc level) = deeper (margin_at level)

-- a line after a margin
abbrev pub line : List ℕ → List Piece → List Piece
line margin ps = Gap margin ∷ (ps ++ line_end ∷ [])
