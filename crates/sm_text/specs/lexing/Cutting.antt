-- Public clauses cite this file.
-- The tokens of a text, read a second way: white space, comments and tokens follow each other to
-- the end of the text, or to bytes where none of these stands.
use Rattle.std.specs.Prelude.{◌≡◌, ℕ, ◌+◌, ◌^◌, ◌<◌, ◌≤◌, ◌==◌, Bool, true, false, ◌||◌, Option, Some, None, is_some, List, [], ◌∷◌, ◌++◌, length}
use Rattle.std.specs.Char.{is_ascii_digit}
use Rattle.std.specs.List.{list_all}
use Rattle.std.specs.Str.Parse.{digits_value}
use Rattle.sm_syntax.specs.text.Tokens.{is_space, is_hash, is_in_line, is_word_start, is_word_byte, mark_of_sign}
use Rattle.sm_syntax.specs.declared.token.TokenKind.{TokenKind}
use Rattle.sm_syntax.specs.declared.token.TokenKind.TheVariants.{Word, Number, Sign}
use Rattle.sm_syntax.specs.declared.token.Token.{Token}
use Rattle.sm_syntax.specs.declared.token.LexFault.{LexFault}
use Rattle.sm_syntax.specs.declared.token.LexKind.{LexKind}
use Rattle.sm_syntax.specs.declared.token.LexKind.TheVariants.{BadByte, BadToken, WideNumber}

-- whether the text has a first byte, and that is such a byte
abbrev pub begins : (ℕ → Bool) → List ℕ → Bool
begins p [] = false
begins p (b ∷ bytes) = p b

-- a word, of any length: a letter or an underscore, then letters, digits and underscores
pub record IsWord (text : List ℕ) : Type 0 where
  pub start : begins is_word_start text ≡ true
  pub bytes : list_all is_word_byte text ≡ true

-- a number, of any value: digits, at least one
pub record IsNumber (text : List ℕ) : Type 0 where
  pub some : 0 < length text
  pub digits : list_all is_ascii_digit text ≡ true

-- a token: a word of at most 64 bytes, a number below 2^127, or a sign
abbrev pub IsToken : TokenKind → List ℕ → Type 0
IsToken Word text = IsWord text × (length text ≤ 64)
IsToken Number text = IsNumber text × (digits_value 10 text < 2 ^ 127)
IsToken Sign text = is_some (mark_of_sign text) ≡ true

-- what stands after a token doesn't go on with it: no byte of a word after a word or a number,
-- and no longer sign
abbrev pub Ends : TokenKind → List ℕ → List ℕ → Type 0
Ends Word text after = begins is_word_byte after ≡ false
Ends Number text after = begins is_word_byte after ≡ false
Ends Sign text after = (more rest : List ℕ) → after ≡ more ++ rest → 0 < length more →
    is_some (mark_of_sign (text ++ more)) ≡ false

-- no white space, no comment and no token stands at the front of a text that isn't empty
pub record IsStuck (bytes : List ℕ) : Type 0 where
  pub some : 0 < length bytes
  pub space : begins is_space bytes ≡ false
  pub hash : begins is_hash bytes ≡ false
  pub token : (kind : TokenKind) (text after : List ℕ) → bytes ≡ text ++ after →
      IsToken kind text → Ends kind text after → ⊥

-- half of a sign: `&` or `|`
abbrev pub is_half : ℕ → Bool
is_half b = b == 38 || b == 124

-- a number stands at the front, with no byte of a word after it
pub record HasNumber (bytes : List ℕ) : Type 0 where
  pub text : List ℕ
  pub after : List ℕ
  pub same : bytes ≡ text ++ after
  pub number : IsNumber text
  pub ends : begins is_word_byte after ≡ false

-- the kind of fault where no token stands: a number is too wide, what begins like a token is none,
-- and no token begins so
abbrev pub IsFaultOf : LexKind → List ℕ → Type 0
IsFaultOf WideNumber bytes = HasNumber bytes
IsFaultOf BadToken bytes =
    (begins (λ b. is_word_byte b || is_half b) bytes ≡ true) × (HasNumber bytes → ⊥)
IsFaultOf BadByte bytes = begins (λ b. is_word_byte b || is_half b) bytes ≡ false

-- the bytes, which stand at a place, are cut into these tokens up to this fault, or to their end
-- where there is none
pub data IsCutInto : ℕ → List ℕ → List Token → Option LexFault → Type 0 where
  end : (place : ℕ) → IsCutInto place [] [] None
  -- white space
  space : (place b : ℕ) (rest : List ℕ) (ts : List Token) (f : Option LexFault) →
      is_space b ≡ true →
      IsCutInto (place + 1) rest ts f →
      IsCutInto place (b ∷ rest) ts f
  -- `#` and the rest of its line
  comment : (place : ℕ) (body rest : List ℕ) (ts : List Token) (f : Option LexFault) →
      list_all is_in_line body ≡ true →
      begins is_in_line rest ≡ false →
      IsCutInto (place + length (35 ∷ body)) rest ts f →
      IsCutInto place (35 ∷ body ++ rest) ts f
  -- a token, and none longer
  token : (place : ℕ) (kind : TokenKind) (text rest : List ℕ) (ts : List Token)
      (f : Option LexFault) →
      IsToken kind text →
      Ends kind text rest →
      IsCutInto (place + length text) rest ts f →
      IsCutInto place (text ++ rest)
      (record { kind = kind; place = place; size = length text } ∷ ts) f
  -- none of these
  fault : (place : ℕ) (kind : LexKind) (bytes : List ℕ) →
      IsStuck bytes →
      IsFaultOf kind bytes →
      IsCutInto place bytes [] (Some (record { kind = kind; place = place }))
