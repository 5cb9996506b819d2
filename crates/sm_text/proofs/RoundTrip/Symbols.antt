-- The names and symbols of a printed text: they are those of its pieces, where the names are the ones of a text.
use Rattle.sm_text.proofs.Imports.{◌≡◌, ℕ, ℤ, pos, negsuc, ◌+◌, ◌^◌, ◌<◌, Bool, true, false, not, ◌||◌, Option, Some, None, is_some, List, [], ◌∷◌, ◌++◌, map, length, take, drop, refl, sym, ap, ap₂, ◌∙◌, subst, append_assoc, arith, lit<, true≢false, take-append_seam, drop-append_seam, decimal_is_IsNumeral_wide, list_any-append, position_or_len, AllByRecursion, slice_get, bytes_eq, Mark, Symbol, Lexed, lexed, TokenKind, is_among, with_text, is_name, names_after, mark_or, symbol_by, slice_get-number, IsKnown, spelling, bytes_of, symbols_in}
use Rattle.std.proofs.Common.{if◌then◌else◌, unwrap_or}
use Rattle.std.proofs.lemmas.List.{length-append}
use Rattle.sm_syntax.specs.declared.symbol.Mark.TheVariants as mark
use Rattle.sm_syntax.specs.declared.symbol.Symbol.TheVariants as s
use Rattle.sm_syntax.specs.declared.token.Token as lexical
use Rattle.sm_syntax.specs.declared.token.TokenKind.TheVariants as kind
use Rattle.sm_syntax.specs.text.Tokens.{mark_of_word, reserved_words, mark_of_sign, signs}
use Rattle.sm_syntax.specs.text.Symbols as symbol
use Rattle.sm_syntax.specs.text.Symbols.{symbol_of, names_among, symbols_among, names_of, symbols_of}
use Rattle.sm_text.specs.parsing.Fragments.{symbols_under}
use Rattle.sm_text.specs.printing.Pieces as pieces
use Rattle.sm_text.proofs.RoundTrip.PieceTokens.{mark_kind}
use Rattle.sm_text.proofs.RoundTrip.TextTokens.{kind_of, IsNameText, IsLiteral, IsSpelled, tokens_at}
use Rattle.sm_text.proofs.Numbering.Symbols.{names_with, grown-names_after, known-names_with}
use Rattle.sm_text.proofs.RoundTrip.TokenBytes.{IsGoodText, IsGoodToken, tokens_good}

-- the names after symbols, where these are the texts of the names
abbrev pub names_by : List (List ℕ) → List (List ℕ) → List Symbol → List (List ℕ)
names_by names before [] = before
names_by names before (s.Mark m ∷ ss) = names_by names before ss
names_by names before (s.Number z ∷ ss) = names_by names before ss
names_by names before (s.Name x ∷ ss) = names_by names (with_text before (unwrap_or (slice_get names x.0) [])) ss

-- the number of a name is the place of its text
abbrev pub IsOwn : List (List ℕ) → Symbol → Type 0
IsOwn names (s.Mark m) = Unit {0}
IsOwn names (s.Number z) = Unit {0}
IsOwn names (s.Name x) = position_or_len (bytes_eq (unwrap_or (slice_get names x.0) [])) names ≡ x.0

-- a name's text is one of the names
abbrev pub IsAmong : List (List ℕ) → Symbol → Type 0
IsAmong names (s.Mark m) = Unit {0}
IsAmong names (s.Number z) = Unit {0}
IsAmong names (s.Name x) = is_among names (unwrap_or (slice_get names x.0) []) ≡ true

-- a symbol that a text has, where these are the texts of its names
pub record IsIn (names : List (List ℕ)) (t : Symbol) : Type 0 where
  pub spelled : IsSpelled names t
  pub own : IsOwn names t
  pub among : IsAmong names t

-- a text of a kind makes a symbol that it has
symbol_in : (k : TokenKind) (names : List (List ℕ)) (text : List ℕ) → IsGoodText k text →
    (is_name k text ≡ true → is_among names text ≡ true) → IsIn names (symbol_by k names text)
symbol_in kind.Number names text good known = record { spelled = good; own = tt; among = tt }
symbol_in kind.Sign names text good known = by (mark_of_sign text)
  where
    by : (o : Option Mark) → IsIn names (mark_or o (s.Mark mark.Semicolon))
    by None = record { spelled = tt; own = tt; among = tt }
    by (Some m) = record { spelled = tt; own = tt; among = tt }
symbol_in kind.Word names text good known = by (mark_of_word text) refl known
  where
    by : (o : Option Mark) → mark_of_word text ≡ o → (not (is_some o) ≡ true → is_among names text ≡ true) →
        IsIn names (mark_or o (s.Name (record { 0 = position_or_len (bytes_eq text) names })))
    by (Some m) e known = record { spelled = tt; own = tt; among = tt }
    by None e known =
        let here : unwrap_or (slice_get names (position_or_len (bytes_eq text) names)) [] ≡ text =
        ap (λ (o : Option (List ℕ)). unwrap_or o []) (slice_get-number names text (known refl)) in
        let T : List ℕ → Type 0 = λ l. IsNameText l in
        record {
          spelled = subst T (sym here) (record { start = good.0; word = good.1; short = good.2; free = e });
          own = ap (λ (l : List ℕ). position_or_len (bytes_eq l) names) here;
          among = ap (is_among names) here ∙ known refl;
        }

-- the names that a text of a kind adds are those of its symbol
names_step : (k : TokenKind) (names before : List (List ℕ)) (text : List ℕ) (ss : List Symbol) →
    (is_name k text ≡ true → is_among names text ≡ true) →
    names_by names before (symbol_by k names text ∷ ss) ≡ names_by names (names_with before k text) ss
names_step kind.Number names before text ss known = refl
names_step kind.Sign names before text ss known = by (mark_of_sign text)
  where
    by : (o : Option Mark) → names_by names before (mark_or o (s.Mark mark.Semicolon) ∷ ss) ≡ names_by names before ss
    by None = refl
    by (Some m) = refl
names_step kind.Word names before text ss known = by (mark_of_word text) known
  where
    by : (o : Option Mark) → (not (is_some o) ≡ true → is_among names text ≡ true) →
        names_by names before (mark_or o (s.Name (record { 0 = position_or_len (bytes_eq text) names })) ∷ ss)
        ≡ names_by names (if not (is_some o) then with_text before text else before) ss
    by (Some m) known = refl
    by None known = ap (λ (o : Option (List ℕ)). names_by names (with_text before (unwrap_or o [])) ss)
        (slice_get-number names text (known refl))

-- what stood among the names stays there
pub among_more : (texts more : List (List ℕ)) (text : List ℕ) → is_among texts text ≡ true → is_among (texts ++ more) text ≡ true
among_more texts more text h = list_any-append (bytes_eq text) texts more ∙ ap (λ (t : Bool). t || is_among more text) h

-- after the tokens, each of their names is among the names
pub known_behind : (bytes : List ℕ) (before : List (List ℕ)) (ts : List lexical.Token) (names : List (List ℕ)) →
    names ≡ names_after bytes before ts → AllByRecursion (IsKnown bytes names) ts
known_behind bytes before [] names same = tt
known_behind bytes before (t ∷ ts) names same =
    let text = symbol.text_of bytes t in
    let now = names_with before t.kind text in
    let rest = grown-names_after bytes now ts in (
      λ h. ap (λ (l : List (List ℕ)). is_among l text) (same ∙ rest.1) ∙ among_more now rest.0 text (known-names_with before t.kind text h),
      known_behind bytes now ts names same,
    )

-- the symbols of a text: each is one that the text has, and their names are the names
pub symbols_are_in : (bytes : List ℕ) (names : List (List ℕ)) (ts : List lexical.Token) → AllByRecursion (IsGoodToken bytes) ts →
    AllByRecursion (IsKnown bytes names) ts →
    AllByRecursion (IsIn names) (map (symbol_of bytes names) ts)
unfolding symbol_of
symbols_are_in bytes names [] good known = tt
symbols_are_in bytes names (t ∷ ts) good known =
    (symbol_in t.kind names (symbol.text_of bytes t) good.0.text known.0, symbols_are_in bytes names ts good.1 known.1)

pub names_are : (bytes : List ℕ) (names before : List (List ℕ)) (ts : List lexical.Token) → AllByRecursion (IsKnown bytes names) ts →
    names_by names before (map (symbol_of bytes names) ts) ≡ names_after bytes before ts
unfolding symbol_of
names_are bytes names before [] known = refl
names_are bytes names before (t ∷ ts) known =
    let text = symbol.text_of bytes t in
    names_step t.kind names before text (map (symbol_of bytes names) ts) known.0
    ∙ names_are bytes names (names_with before t.kind text) ts known.1

pub text_symbols : (bytes : List ℕ) → AllByRecursion (IsIn (names_of bytes)) (symbols_of bytes)
unfolding names_of symbols_of names_among symbols_among
text_symbols bytes =
    let ts = (lexed bytes).0 in
    let names = names_after bytes [] ts in
    symbols_are_in bytes names ts (tokens_good bytes) (known_behind bytes [] ts names refl)

pub text_names : (bytes : List ℕ) → names_by (names_of bytes) [] (symbols_of bytes) ≡ names_of bytes
unfolding names_of symbols_of names_among symbols_among
text_names bytes =
    let ts = (lexed bytes).0 in
    let names = names_after bytes [] ts in
    names_are bytes names [] ts (known_behind bytes [] ts names refl)

-- the symbol of a mark's token
mark_symbol : (m : Mark) (names : List (List ℕ)) → symbol_by (mark_kind m) names (spelling m) ≡ s.Mark m
unfolding mark_of_word reserved_words mark_of_sign signs
mark_symbol mark.Var names = refl
mark_symbol mark.Array names = refl
mark_symbol mark.Output names = refl
mark_symbol mark.Shared names = refl
mark_symbol mark.Base names = refl
mark_symbol mark.VariantA names = refl
mark_symbol mark.VariantB names = refl
mark_symbol mark.Candidate names = refl
mark_symbol mark.Skip names = refl
mark_symbol mark.If names = refl
mark_symbol mark.Else names = refl
mark_symbol mark.While names = refl
mark_symbol mark.True names = refl
mark_symbol mark.False names = refl
mark_symbol mark.Assume names = refl
mark_symbol mark.OpenRound names = refl
mark_symbol mark.CloseRound names = refl
mark_symbol mark.OpenCurly names = refl
mark_symbol mark.CloseCurly names = refl
mark_symbol mark.OpenSquare names = refl
mark_symbol mark.CloseSquare names = refl
mark_symbol mark.Semicolon names = refl
mark_symbol mark.Comma names = refl
mark_symbol mark.Question names = refl
mark_symbol mark.Becomes names = refl
mark_symbol mark.Plus names = refl
mark_symbol mark.Minus names = refl
mark_symbol mark.Star names = refl
mark_symbol mark.Bang names = refl
mark_symbol mark.Less names = refl
mark_symbol mark.Greater names = refl
mark_symbol mark.Equal names = refl
mark_symbol mark.Unequal names = refl
mark_symbol mark.AtMost names = refl
mark_symbol mark.AtLeast names = refl
mark_symbol mark.Both names = refl
mark_symbol mark.Either names = refl

-- no mark is a name
mark_unnamed : (m : Mark) → is_name (mark_kind m) (spelling m) ≡ false
unfolding mark_of_word reserved_words
mark_unnamed mark.Var = refl
mark_unnamed mark.Array = refl
mark_unnamed mark.Output = refl
mark_unnamed mark.Shared = refl
mark_unnamed mark.Base = refl
mark_unnamed mark.VariantA = refl
mark_unnamed mark.VariantB = refl
mark_unnamed mark.Candidate = refl
mark_unnamed mark.Skip = refl
mark_unnamed mark.If = refl
mark_unnamed mark.Else = refl
mark_unnamed mark.While = refl
mark_unnamed mark.True = refl
mark_unnamed mark.False = refl
mark_unnamed mark.Assume = refl
mark_unnamed mark.OpenRound = refl
mark_unnamed mark.CloseRound = refl
mark_unnamed mark.OpenCurly = refl
mark_unnamed mark.CloseCurly = refl
mark_unnamed mark.OpenSquare = refl
mark_unnamed mark.CloseSquare = refl
mark_unnamed mark.Semicolon = refl
mark_unnamed mark.Comma = refl
mark_unnamed mark.Question = refl
mark_unnamed mark.Becomes = refl
mark_unnamed mark.Plus = refl
mark_unnamed mark.Minus = refl
mark_unnamed mark.Star = refl
mark_unnamed mark.Bang = refl
mark_unnamed mark.Less = refl
mark_unnamed mark.Greater = refl
mark_unnamed mark.Equal = refl
mark_unnamed mark.Unequal = refl
mark_unnamed mark.AtMost = refl
mark_unnamed mark.AtLeast = refl
mark_unnamed mark.Both = refl
mark_unnamed mark.Either = refl

-- the symbol of a symbol's token
symbol_again : (names : List (List ℕ)) (t : Symbol) → IsIn names t → symbol_by (kind_of t) names (bytes_of names (pieces.Token t)) ≡ t
symbol_again names (s.Mark m) good = mark_symbol m names
symbol_again names (s.Number z) good = literal_again names z good.spelled
  where
    literal_again : (names : List (List ℕ)) (z : ℤ) → IsLiteral z →
        symbol_by kind.Number names (bytes_of names (pieces.Token (s.Number z))) ≡ s.Number z
    literal_again names (pos n) small =
        let wide : n < 10 ^ 64 = omega (arith, lit< {m = 2 ^ 127} {n = 10 ^ 64} tt) in
        ap (λ (k : ℕ). s.Number (pos k)) (decimal_is_IsNumeral_wide n wide).1
    literal_again names (negsuc n) small = absurd small
symbol_again names (s.Name x) good =
    ap (λ (o : Option Mark). mark_or o (s.Name (record { 0 = position_or_len (bytes_eq (unwrap_or (slice_get names x.0) [])) names })))
    good.spelled.free
    ∙ ap (λ (n : ℕ). s.Name (record { 0 = n })) good.own

-- the names with a symbol's token
names_again : (names before : List (List ℕ)) (t : Symbol) (ss : List Symbol) → IsIn names t →
    names_by names (names_with before (kind_of t) (bytes_of names (pieces.Token t))) ss ≡ names_by names before (t ∷ ss)
names_again names before (s.Mark m) ss good =
    ap (λ (t : Bool). names_by names (if t then with_text before (spelling m) else before) ss) (mark_unnamed m)
names_again names before (s.Number z) ss good = refl
names_again names before (s.Name x) ss good =
    let text = unwrap_or (slice_get names x.0) [] in
    ap (λ (o : Option Mark). names_by names (if not (is_some o) then with_text before text else before) ss) good.spelled.free

-- the bytes of a token that was put
pub put_text : (u w rest bytes : List ℕ) (k : TokenKind) (place : ℕ) → bytes ≡ u ++ (w ++ rest) → place ≡ length u →
    symbol.text_of bytes (record { kind = k; place = place; size = length w }) ≡ w
put_text u w rest bytes k place whole at =
    ap₂ (λ (l : List ℕ) (n : ℕ). take (length w) (drop n l)) whole at ∙
    ap (take (length w)) (drop-append_seam u (w ++ rest)) ∙ take-append_seam w rest

-- the symbols and names of pieces' tokens
again : (names : List (List ℕ)) (ps : List pieces.Piece) (u bytes : List ℕ) (place : ℕ) → bytes ≡ u ++ pieces.pieces_text names ps →
    place ≡ length u → AllByRecursion (IsIn names) (symbols_in ps) →
    (map (symbol_of bytes names) (tokens_at names place ps) ≡ symbols_in ps) × ((before : List (List ℕ)) →
    names_after bytes before (tokens_at names place ps) ≡ names_by names before (symbols_in ps))
unfolding symbol_of
again names [] u bytes place whole at good = (refl, λ before. refl)
again names (pieces.Token t ∷ ps) u bytes place whole at good =
    let w = bytes_of names (pieces.Token t) in
    let rest = pieces.pieces_text names ps in
    let here = put_text u w rest bytes (kind_of t) place whole at in
    let more = again names ps (u ++ w) bytes (place + length w) (whole ∙ sym (append_assoc u w rest)) (ap (λ (n : ℕ). n + length w) at
    ∙ sym (length-append u w)) good.1 in (
      ap₂ (λ (x : Symbol) (l : List Symbol). x ∷ l) (ap (symbol_by (kind_of t) names) here ∙ symbol_again names t good.0) more.0,
      λ (before : List (List ℕ)).
          ap (λ (l : List ℕ). names_after bytes (names_with before (kind_of t) l) (tokens_at names (place + length w) ps)) here ∙
          more.1 (names_with before (kind_of t) w) ∙ names_again names before t (symbols_in ps) good.0,
    )
again names (pieces.Gap w ∷ ps) u bytes place whole at good =
    again names ps (u ++ w) bytes (place + length w) (whole ∙ sym (append_assoc u w (pieces.pieces_text names ps)))
    (ap (λ (n : ℕ). n + length w) at ∙ sym (length-append u w)) good

-- each name among pieces' tokens is one of the names
known_again : (names : List (List ℕ)) (t : Symbol) (text : List ℕ) → text ≡ bytes_of names (pieces.Token t) → IsIn names t →
    is_name (kind_of t) text ≡ true → is_among names text ≡ true
known_again names (s.Mark m) text same good h = absurd (true≢false (sym h ∙ ap (is_name (mark_kind m)) same ∙ mark_unnamed m))
known_again names (s.Number z) text same good h = cc
known_again names (s.Name x) text same good h = ap (is_among names) same ∙ good.among

pub tokens_known : (names : List (List ℕ)) (ps : List pieces.Piece) (u bytes : List ℕ) (place : ℕ) →
    bytes ≡ u ++ pieces.pieces_text names ps → place ≡ length u → AllByRecursion (IsIn names) (symbols_in ps) →
    AllByRecursion (IsKnown bytes names) (tokens_at names place ps)
tokens_known names [] u bytes place whole at good = tt
tokens_known names (pieces.Token t ∷ ps) u bytes place whole at good =
    let w = bytes_of names (pieces.Token t) in
    let rest = pieces.pieces_text names ps in (
      known_again names t _ (put_text u w rest bytes (kind_of t) place whole at) good.0,
      tokens_known names ps (u ++ w) bytes (place + length w) (whole ∙ sym (append_assoc u w rest)) (ap (λ (n : ℕ). n + length w) at
          ∙ sym (length-append u w)) good.1,
    )
tokens_known names (pieces.Gap w ∷ ps) u bytes place whole at good =
    tokens_known names ps (u ++ w) bytes (place + length w) (whole ∙ sym (append_assoc u w (pieces.pieces_text names ps)))
    (ap (λ (n : ℕ). n + length w) at ∙ sym (length-append u w)) good

-- the symbols of a printed text, under the names
pub printed_under : (names : List (List ℕ)) (ps : List pieces.Piece) → lexed (pieces.pieces_text names ps) ≡ (tokens_at names 0 ps, None) →
    AllByRecursion (IsIn names) (symbols_in ps) →
    symbols_under names (pieces.pieces_text names ps) ≡ symbols_in ps
unfolding symbols_under
printed_under names ps cut good =
    let bytes = pieces.pieces_text names ps in
    ap (λ (l : Lexed). map (symbol_of bytes names) l.0) cut ∙ (again names ps [] bytes 0 refl refl good).0

-- the symbols of a text whose names are among these
pub under_in : (names : List (List ℕ)) (bytes : List ℕ) → AllByRecursion (IsKnown bytes names) (lexed bytes).0 →
    AllByRecursion (IsIn names) (symbols_under names bytes)
unfolding symbols_under
under_in names bytes known = symbols_are_in bytes names (lexed bytes).0 (tokens_good bytes) known

-- a printed text, whose names are those that its symbols make
pub record IsAgain (names : List (List ℕ)) (ps : List pieces.Piece) : Type 0 where
  pub names_same : names_of (pieces.pieces_text names ps) ≡ names
  pub symbols_same : symbols_of (pieces.pieces_text names ps) ≡ symbols_in ps

pub printed_again : (names : List (List ℕ)) (ps : List pieces.Piece) → lexed (pieces.pieces_text names ps) ≡ (tokens_at names 0 ps, None) →
    AllByRecursion (IsIn names) (symbols_in ps) →
    names_by names [] (symbols_in ps) ≡ names → IsAgain names ps
unfolding names_of symbols_of names_among symbols_among
printed_again names ps cut good same =
    let bytes = pieces.pieces_text names ps in
    let it = again names ps [] bytes 0 refl refl good in
    let ts = tokens_at names 0 ps in
    let tokens : (lexed bytes).0 ≡ ts = ap (λ (l : Lexed). l.0) cut in
    let all : names_after bytes [] (lexed bytes).0 ≡ names = ap (names_after bytes []) tokens ∙ it.1 [] ∙ same in
    record {
      names_same = all;
      symbols_same = ap₂ (λ (l : List (List ℕ)) (ks : List lexical.Token). map (symbol_of bytes l) ks) all tokens ∙ it.0;
    }
