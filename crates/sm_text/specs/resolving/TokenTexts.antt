-- No public clause cites this file.
-- What the bytes of a token are known to be.
use Rattle.std.specs.Prelude.{◌≡◌, ℕ, ◌<◌, ◌≤◌, ◌+◌, ◌^◌, Option, None, List, length, true, is_some}
use Rattle.std.specs.Char.{is_ascii_digit}
use Rattle.std.specs.List.{AllPass}
use Rattle.std.specs.Str.{IsAscii}
use Rattle.std.specs.Str.Parse.{digits_value}
use Rattle.sm_syntax.specs.declared.symbol.Mark.{Mark}
use Rattle.sm_syntax.specs.text.Symbols.{text_of}
use Rattle.sm_syntax.specs.text.Tokens.{mark_of_sign}
use Rattle.sm_syntax.specs.declared.token.TokenKind.{TokenKind}
use Rattle.sm_syntax.specs.declared.token.TokenKind.TheVariants.{Word, Number, Sign}
use Rattle.sm_syntax.specs.declared.token.Token.{Token}

-- ASCII, digits of a number that is not too wide, or a sign
abbrev pub IsText : TokenKind → List ℕ → Type 0
IsText Word text = IsAscii text
IsText Number text = AllPass is_ascii_digit text × (digits_value 10 text < 2 ^ 127)
IsText Sign text = is_some (mark_of_sign text) ≡ true

-- a token lies within the text, and its bytes are of its kind
pub record IsTokenOf (bytes : List ℕ) (t : Token) : Type 0 where
  pub within : t.place + t.size ≤ length bytes
  pub text : IsText t.kind (text_of bytes t)

-- the sign that a token of this kind and text is, if it is one
abbrev pub sign_by : TokenKind → List ℕ → Option Mark
sign_by Word text = None
sign_by Number text = None
sign_by Sign text = mark_of_sign text
