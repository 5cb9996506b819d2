-- The symbols of a text: what the grammar sees of its tokens. Public clauses cite them.
-- A name stands as a number, by first appearance.
use Rattle.std.specs.Prelude.{ℕ, pos, Bool, false, not, if◌then◌else◌, Option, Some, None, is_some, List, [], ◌∷◌, ◌++◌, map, take, drop}
use Rattle.std.specs.List.{list_any, position_or_len}
use Rattle.std.specs.Str.{bytes_eq}
use Rattle.std.specs.Str.Parse.{digits_value}
use Rattle.sm_syntax.specs.declared.symbol.Mark.{Mark}
use Rattle.sm_syntax.specs.declared.symbol.Mark.TheVariants.{Semicolon}
use Rattle.sm_syntax.specs.declared.symbol.Symbol.{Symbol}
use Rattle.sm_syntax.specs.declared.symbol.Symbol.TheVariants as s
use Rattle.sm_syntax.specs.text.Tokens.{mark_of_word, mark_of_sign, lexed, TokenKind, Word, Number, Sign, Token}

-- the bytes of a token
abbrev pub text_of : List ℕ → Token → List ℕ
text_of bytes t = take t.size (drop t.place bytes)

-- whether a text is among others
abbrev pub is_among : List (List ℕ) → List ℕ → Bool
is_among texts text = list_any (bytes_eq text) texts

-- the texts with one more, where it isn't among them
unfoldable pub with_text : List (List ℕ) → List ℕ → List (List ℕ)
with_text texts text = if is_among texts text then texts else texts ++ text ∷ []

-- whether a token of this kind and text is a name: a word that isn't reserved
abbrev pub is_name : TokenKind → List ℕ → Bool
is_name Word text = not (is_some (mark_of_word text))
is_name Number text = false
is_name Sign text = false

-- the names that stood before, and those of the tokens
abbrev pub names_after : List ℕ → List (List ℕ) → List Token → List (List ℕ)
names_after bytes names [] = names
names_after bytes names (t ∷ ts) =
    names_after bytes
    (if is_name t.kind (text_of bytes t) then with_text names (text_of bytes t) else names)
    ts

-- the mark, or else another symbol
abbrev pub mark_or : Option Mark → Symbol → Symbol
mark_or None other = other
mark_or (Some m) other = s.Mark m

-- the symbol of a text: a reserved word, a name by its number, a number by its value, or a sign
abbrev pub symbol_by : TokenKind → List (List ℕ) → List ℕ → Symbol
symbol_by Word names text =
    mark_or (mark_of_word text) (s.Name (record { 0 = position_or_len (bytes_eq text) names }))
symbol_by Number names text = s.Number (pos (digits_value 10 text))
symbol_by Sign names text = mark_or (mark_of_sign text) (s.Mark Semicolon)

-- the symbol of a token, where the names are numbered so
unfoldable pub symbol_of : List ℕ → List (List ℕ) → Token → Symbol
symbol_of bytes names t = symbol_by t.kind names (text_of bytes t)

-- the names among tokens, each once, by first appearance
unfoldable pub names_among : List ℕ → List Token → List (List ℕ)
names_among bytes tokens = names_after bytes [] tokens

-- the symbols of tokens
unfoldable pub symbols_among : List ℕ → List Token → List Symbol
symbols_among bytes tokens = map (symbol_of bytes (names_among bytes tokens)) tokens

-- the names of a text
unfoldable pub names_of : List ℕ → List (List ℕ)
names_of bytes = names_among bytes (lexed bytes).0

-- the symbols of a text
unfoldable pub symbols_of : List ℕ → List Symbol
symbols_of bytes = symbols_among bytes (lexed bytes).0
