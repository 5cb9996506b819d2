-- The tokens of a text. Public clauses cite them.
-- Between them stand white space and comments alone, and each token is the longest that fits. A
-- comment runs from `#` to the end of its line.
use Rattle.std.specs.Prelude.{ℕ, zero, suc, ◌+◌, ◌-◌, ◌^◌, ◌==◌, nat_lt, nat_le, Bool, not, ◌&&◌, ◌||◌, if◌then◌else◌, Option, Some, None, is_some, option_map, List, [], ◌∷◌, find, length, take, codes}
use Rattle.std.specs.Char.{is_ascii_digit, is_ascii_alphabetic, is_ascii_alphanumeric}
use Rattle.std.specs.List.{prefix_len}
use Rattle.std.specs.Str.{bytes_eq}
use Rattle.std.specs.Str.Parse.{digits_value}
use Rattle.sm_syntax.specs.declared.symbol.Mark.{Mark}
use Rattle.sm_syntax.specs.declared.symbol.Mark.TheVariants as mark
pub use Rattle.sm_syntax.specs.declared.token.LexFault.{LexFault}
pub use Rattle.sm_syntax.specs.declared.token.LexKind.{LexKind}
pub use Rattle.sm_syntax.specs.declared.token.LexKind.TheVariants.{BadByte, BadToken, WideNumber}
pub use Rattle.sm_syntax.specs.declared.token.Token.{Token}
pub use Rattle.sm_syntax.specs.declared.token.TokenKind.{TokenKind}
use Rattle.sm_syntax.specs.declared.token.TokenKind.TheVariants as kind
pub use Rattle.sm_syntax.specs.declared.token.TokenKind.TheVariants.{Number, Sign, Word}

-- white space: a space, a tab, a line feed or a carriage return
abbrev pub is_space : ℕ → Bool
is_space b = b == 32 || b == 9 || b == 10 || b == 13

-- a byte that begins a comment
abbrev pub is_hash : ℕ → Bool
is_hash b = b == 35

-- a byte that stands in a comment: any but a line feed
abbrev pub is_in_line : ℕ → Bool
is_in_line b = not (b == 10)

-- a byte that begins a word: a letter or an underscore
abbrev pub is_word_start : ℕ → Bool
is_word_start b = is_ascii_alphabetic b || b == 95

-- a byte of a word: a letter, a digit or an underscore
abbrev pub is_word_byte : ℕ → Bool
is_word_byte b = is_ascii_alphanumeric b || b == 95

-- texts, each with what it stands for
abbrev pub Table : Type 0
Table = List (List ℕ × Mark)

-- what a text stands for
abbrev pub entry : Table → List ℕ → Option Mark
entry table text =
    option_map
    (λ (e : List ℕ × Mark). e.1)
    (find (λ (e : List ℕ × Mark). bytes_eq text e.0) table)

-- the reserved words
unfoldable pub reserved_words : Table
reserved_words =
    (codes "var", mark.Var)
    ∷ (codes "array", mark.Array)
    ∷ (codes "output", mark.Output)
    ∷ (codes "shared", mark.Shared)
    ∷ (codes "base", mark.Base)
    ∷ (codes "variant_a", mark.VariantA)
    ∷ (codes "variant_b", mark.VariantB)
    ∷ (codes "candidate", mark.Candidate)
    ∷ (codes "skip", mark.Skip)
    ∷ (codes "if", mark.If)
    ∷ (codes "else", mark.Else)
    ∷ (codes "while", mark.While)
    ∷ (codes "true", mark.True)
    ∷ (codes "false", mark.False)
    ∷ (codes "assume", mark.Assume)
    ∷ []

-- the signs
unfoldable pub signs : Table
signs =
    (codes "(", mark.OpenRound)
    ∷ (codes ")", mark.CloseRound)
    ∷ (codes "{", mark.OpenCurly)
    ∷ (codes "}", mark.CloseCurly)
    ∷ (codes "[", mark.OpenSquare)
    ∷ (codes "]", mark.CloseSquare)
    ∷ (codes ";", mark.Semicolon)
    ∷ (codes ",", mark.Comma)
    ∷ (codes "?", mark.Question)
    ∷ (codes "=", mark.Becomes)
    ∷ (codes "+", mark.Plus)
    ∷ (codes "-", mark.Minus)
    ∷ (codes "*", mark.Star)
    ∷ (codes "!", mark.Bang)
    ∷ (codes "<", mark.Less)
    ∷ (codes ">", mark.Greater)
    ∷ (codes "==", mark.Equal)
    ∷ (codes "!=", mark.Unequal)
    ∷ (codes "<=", mark.AtMost)
    ∷ (codes ">=", mark.AtLeast)
    ∷ (codes "&&", mark.Both)
    ∷ (codes "||", mark.Either)
    ∷ []

-- the reserved word that a text is
unfoldable pub mark_of_word : List ℕ → Option Mark
mark_of_word text = entry reserved_words text

-- the sign that a text is
unfoldable pub mark_of_sign : List ℕ → Option Mark
mark_of_sign text = entry signs text

-- what stands at the front of a text: white space or a comment, a token, each with its size in
-- bytes, or neither
pub data Front : Type 0 where
  Gap : ℕ → Front
  Piece : TokenKind → ℕ → Front
  Fault : LexKind → Front

-- at a letter or an underscore: a word of at most 64 bytes
unfoldable pub word_at : List ℕ → Front
word_at bytes =
    let size = prefix_len is_word_byte bytes in
    if nat_le size 64 then Piece kind.Word size else Fault BadToken

-- at a digit: a number of at most 2^127 - 1, where no letter or underscore follows
unfoldable pub number_at : List ℕ → Front
number_at bytes =
    let size = prefix_len is_ascii_digit bytes in
    if prefix_len is_word_byte bytes == size then (
    if nat_lt (digits_value 10 (take size bytes)) (2 ^ 127) then Piece kind.Number size
    else Fault WideNumber)
    else Fault BadToken

-- anywhere else: the longest sign; a lone `&` or `|` is half of one
unfoldable pub sign_at : List ℕ → Front
sign_at bytes =
    if nat_le 2 (length bytes) && is_some (mark_of_sign (take 2 bytes)) then Piece kind.Sign 2
    else (if is_some (mark_of_sign (take 1 bytes)) then Piece kind.Sign 1
    else (if bytes_eq (take 1 bytes) (codes "&") || bytes_eq (take 1 bytes) (codes "|")
    then Fault BadToken
    else Fault BadByte))

-- what stands at the front of a text whose first byte is b
unfoldable pub front_of : ℕ → List ℕ → Front
front_of b bytes =
    if is_space b then Gap 1
    else (if is_hash b then Gap (prefix_len is_in_line bytes)
    else (if is_word_start b then word_at bytes
    else (if is_ascii_digit b then number_at bytes
    else sign_at bytes)))

-- the tokens before the first fault, and that fault
abbrev pub Lexed : Type 0
Lexed = List Token × Option LexFault

-- one more token before the others
abbrev pub with_token : Token → Lexed → Lexed
with_token t l = (t ∷ l.0, l.1)

-- what a front at a place gives, where `more` says what stands after the bytes that are still left
-- of it
abbrev pub by_front : Front → ℕ → (ℕ → Lexed) → Lexed
by_front (Gap size) place more = more (size - 1)
by_front (Piece kind size) place more =
    with_token (record { kind = kind; place = place; size = size }) (more (size - 1))
by_front (Fault kind) place more = ([], Some (record { kind = kind; place = place }))

-- the tokens from a place on, where `left` bytes are left of the front that was cut before
abbrev pub lexed_after : ℕ → ℕ → List ℕ → Lexed
lexed_after left place [] = ([], None)
lexed_after (suc left) place (b ∷ bytes) = lexed_after left (place + 1) bytes
lexed_after zero place (b ∷ bytes) =
    by_front (front_of b (b ∷ bytes)) place (λ left. lexed_after left (place + 1) bytes)

-- the tokens from a place on
unfoldable pub lexed_from : ℕ → List ℕ → Lexed
lexed_from place bytes = lexed_after 0 place bytes

-- the tokens of a text before its first fault, and that fault
unfoldable pub lexed : List ℕ → Lexed
lexed bytes = lexed_from 0 bytes
