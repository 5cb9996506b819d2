-- The tokens of pieces, each of which nothing after it goes on with, are their tokens.
use Rattle.sm_text.proofs.Imports.{◌≡◌, ℕ, ℤ, pos, negsuc, ◌+◌, ◌^◌, ◌<◌, ◌≤◌, Bool, true, false, None, List, [], ◌∷◌, length, refl, ap, ◌∙◌, list_all, slice_get, Symbol, Lexed, is_space, is_word_start, is_word_byte, mark_of_word, with_token, TokenKind, bytes_of, pieces_text}
use Rattle.std.proofs.Common.{unwrap_or}
use Rattle.sm_syntax.specs.declared.symbol.Symbol.TheVariants as s
use Rattle.sm_syntax.specs.declared.token.TokenKind.TheVariants as kind
use Rattle.sm_syntax.specs.declared.token.Token as lexical
use Rattle.sm_syntax.specs.text.Tokens.{lexed, lexed_from}
use Rattle.sm_text.specs.printing.Pieces.{Piece, Token, Gap}
use Rattle.sm_text.proofs.RoundTrip.PieceTokens.{begins, Cuts, mark_kind, goes_on_mark, mark_cut, number_cut, word_cut, lexed-gap}

-- the kind of a symbol's token
abbrev pub kind_of : Symbol → TokenKind
kind_of (s.Mark m) = mark_kind m
kind_of (s.Number z) = kind.Number
kind_of (s.Name x) = kind.Word

-- whether a byte after a symbol's token would go on with it
abbrev pub goes_on : Symbol → ℕ → Bool
goes_on (s.Mark m) b = goes_on_mark m b
goes_on (s.Number z) b = is_word_byte b
goes_on (s.Name x) b = is_word_byte b

-- a word that isn't reserved
pub record IsNameText (text : List ℕ) : Type 0 where
  pub start : begins is_word_start text ≡ true
  pub word : list_all is_word_byte text ≡ true
  pub short : length text ≤ 64
  pub free : mark_of_word text ≡ None

-- a number that a text may have
abbrev pub IsLiteral : ℤ → Type 0
IsLiteral (pos n) = n < 2 ^ 127
IsLiteral (negsuc n) = ⊥

-- a symbol that a text may have, where these are the texts of the names
abbrev pub IsSpelled : List (List ℕ) → Symbol → Type 0
IsSpelled names (s.Mark m) = Unit {0}
IsSpelled names (s.Number z) = IsLiteral z
IsSpelled names (s.Name x) = IsNameText (unwrap_or (slice_get names x.0) [])

-- a name is cut whole
name_cut : (text v : List ℕ) → IsNameText text → begins is_word_byte v ≡ false → Cuts text v kind.Word
name_cut [] v good ends = let no = good.start in cc
name_cut (b ∷ u) v good ends = word_cut b u v good.start good.word good.short ends

literal_cut : (z : ℤ) (v : List ℕ) → IsLiteral z → begins is_word_byte v ≡ false → (names : List (List ℕ)) →
    Cuts (bytes_of names (Token (s.Number z))) v kind.Number
literal_cut (pos n) v good ends names = number_cut n v good ends
literal_cut (negsuc n) v good ends names = absurd good

-- a symbol's token is cut whole
symbol_cut : (names : List (List ℕ)) (t : Symbol) (v : List ℕ) → IsSpelled names t → begins (goes_on t) v ≡ false →
    Cuts (bytes_of names (Token t)) v (kind_of t)
symbol_cut names (s.Mark m) v good ends = mark_cut m v ends
symbol_cut names (s.Number z) v good ends = literal_cut z v good ends names
symbol_cut names (s.Name x) v good ends = name_cut (unwrap_or (slice_get names x.0) []) v good ends

-- the gaps are white space, and nothing after a token goes on with it
abbrev pub AreApart : List (List ℕ) → List Piece → Type 0
AreApart names [] = Unit {0}
AreApart names (Token t ∷ ps) = IsSpelled names t × (begins (goes_on t) (pieces_text names ps) ≡ false) × AreApart names ps
AreApart names (Gap bytes ∷ ps) = (list_all is_space bytes ≡ true) × AreApart names ps

-- the tokens of pieces from a place on
abbrev pub tokens_at : List (List ℕ) → ℕ → List Piece → List lexical.Token
tokens_at names place [] = []
tokens_at names place (Token t ∷ ps) =
    let size = length (bytes_of names (Token t)) in
    record { kind = kind_of t; place = place; size = size } ∷ tokens_at names (place + size) ps
tokens_at names place (Gap bytes ∷ ps) = tokens_at names (place + length bytes) ps

ended : (place : ℕ) → ◌≡◌ {A = Lexed} (lexed_from place []) ([], None)
unfolding lexed_from
ended place = refl

relexed_from : (names : List (List ℕ)) (ps : List Piece) (place : ℕ) → AreApart names ps →
    lexed_from place (pieces_text names ps) ≡ (tokens_at names place ps, None)
relexed_from names [] place apart = ended place
relexed_from names (Token t ∷ ps) place apart =
    let u = bytes_of names (Token t) in
    (symbol_cut names t (pieces_text names ps) apart.0 apart.1).cut place ∙
    ap (with_token (record { kind = kind_of t; place = place; size = length u })) (relexed_from names ps (place + length u) apart.2)
relexed_from names (Gap bytes ∷ ps) place apart =
    lexed-gap bytes (pieces_text names ps) place apart.0 ∙ relexed_from names ps (place + length bytes) apart.1

-- the tokens of a printed text are those of its pieces, and it has no fault
pub relexed : (names : List (List ℕ)) (ps : List Piece) → AreApart names ps → lexed (pieces_text names ps) ≡ (tokens_at names 0 ps, None)
unfolding lexed
relexed names ps apart = relexed_from names ps 0 apart
