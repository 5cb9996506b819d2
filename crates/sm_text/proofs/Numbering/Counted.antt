-- The names of the first tokens of a list stand first among the names of all, and their symbols count them.
use Rattle.sm_text.proofs.Imports.{◌≡◌, ℕ, ◌+◌, ◌-◌, ◌<◌, ◌==◌, Bool, true, false, cond, not, ◌||◌, Option, Some, None, is_some, List, [], ◌∷◌, ◌++◌, map, length, take, drop, refl, sym, ap, ap₂, ◌∙◌, true≢false, arith, take-append_seam, nat_tests, length_push, length-map, map-append, take-map, position_or_len, AllByRecursion, bytes_eq, Mark, Semicolon, Symbol, text_of, is_among, with_text, names_after, mark_or, symbol_by, mark_of_word, mark_of_sign, TokenKind, Word, Number, Sign, with_text-among, with_text-new, number-last, token_symbols, IsKnown, names_counted}
use Rattle.std.proofs.Common.{if◌then◌else◌}
use Rattle.std.proofs.lemmas.List.{length-drop, take-append-drop}
use Rattle.sm_syntax.specs.declared.symbol.Symbol.TheVariants as s
use Rattle.sm_syntax.specs.text.Symbols.{symbol_of}
use Rattle.sm_syntax.specs.declared.token.Token.{Token}
use Rattle.sm_text.proofs.Numbering.Symbols.{names_with, names_after-append, grown-names_after, known-names_with, symbol_by-append}
use Rattle.sm_text.proofs.RoundTrip.Symbols.{known_behind}

-- symbols stay where names are added after theirs
same_symbols : (bytes : List ℕ) (names more : List (List ℕ)) (ts : List Token) → AllByRecursion (IsKnown bytes names) ts →
    map (symbol_of bytes (names ++ more)) ts ≡ map (symbol_of bytes names) ts
unfolding symbol_of
same_symbols bytes names more [] known = refl
same_symbols bytes names more (t ∷ ts) known =
    ap₂ (λ (u : Symbol) (us : List Symbol). u ∷ us) (symbol_by-append t.kind names more (text_of bytes t) known.0)
    (same_symbols bytes names more ts known.1)

-- the names of the first tokens stand first
pub names-take : (bytes : List ℕ) (before : List (List ℕ)) (n : ℕ) (ts : List Token) →
    (more : List (List ℕ)) × (names_after bytes before ts ≡ names_after bytes before (take n ts) ++ more)
names-take bytes before n ts =
    let grown = grown-names_after bytes (names_after bytes before (take n ts)) (drop n ts) in (
      grown.0,
      ap (names_after bytes before) (sym (take-append-drop n ts)) ∙ names_after-append bytes before (take n ts) (drop n ts)
          ∙ grown.1,
    )

-- the symbols of the first tokens are the same, whatever stands after them
pub signs-take : (bytes : List ℕ) (before : List (List ℕ)) (n : ℕ) (ts : List Token) →
    take n (token_symbols bytes before ts) ≡ token_symbols bytes before (take n ts)
signs-take bytes before n ts =
    let names = names_after bytes before (take n ts) in
    let grown = names-take bytes before n ts in
    take-map (symbol_of bytes (names_after bytes before ts)) n ts
    ∙ ap (λ (l : List (List ℕ)). map (symbol_of bytes l) (take n ts)) grown.1
    ∙ same_symbols bytes names grown.0 (take n ts) (known_behind bytes before (take n ts) names refl)

-- others stand after these
pub signs-split : (bytes : List ℕ) (before : List (List ℕ)) (n : ℕ) (ts : List Token) →
    (z : List Symbol) × (token_symbols bytes before ts ≡ token_symbols bytes before (take n ts) ++ z) × (length z ≡ length ts - n)
signs-split bytes before n ts =
    let sign = symbol_of bytes (names_after bytes before ts) in
    let z = map sign (drop n ts) in (
      z,
      ap (map sign) (sym (take-append-drop n ts)) ∙ map-append sign (take n ts) (drop n ts)
          ∙ ap (λ (l : List Symbol). l ++ z) (sym (take-map sign n ts) ∙ signs-take bytes before n ts),
      length-map (drop n ts) sign ∙ length-drop n ts,
    )

-- a text that is among others stands before their end
pub among-below : (texts : List (List ℕ)) (t : List ℕ) → is_among texts t ≡ true → position_or_len (bytes_eq t) texts < length texts
among-below [] t h = absurd (true≢false (sym h))
among-below (x ∷ xs) t h = by (bytes_eq t x) refl (among-below xs t)
  where
    by : (b : Bool) → bytes_eq t x ≡ b → (is_among xs t ≡ true → position_or_len (bytes_eq t) xs < length xs) →
        position_or_len (bytes_eq t) (x ∷ xs) < length (x ∷ xs)
    by true e more =
        let at : position_or_len (bytes_eq t) (x ∷ xs) ≡ 0 = ap (λ (c : Bool). cond (not c) (1 + position_or_len (bytes_eq t) xs) 0) e in
        omega (arith, at)
    by false e more =
        let at : position_or_len (bytes_eq t) (x ∷ xs) ≡ 1 + position_or_len (bytes_eq t) xs =
        ap (λ (c : Bool). cond (not c) (1 + position_or_len (bytes_eq t) xs) 0) e in
        let below = more (sym (ap (λ (c : Bool). c || is_among xs t) e) ∙ h) in
        omega (arith, at, below)

-- one that isn't has the number of their end
pub fresh-last : (texts : List (List ℕ)) (t : List ℕ) → is_among texts t ≡ false → position_or_len (bytes_eq t) texts ≡ length texts
fresh-last [] t h = refl
fresh-last (x ∷ xs) t h = by (bytes_eq t x) refl (fresh-last xs t)
  where
    by : (b : Bool) → bytes_eq t x ≡ b → (is_among xs t ≡ false → position_or_len (bytes_eq t) xs ≡ length xs) →
        position_or_len (bytes_eq t) (x ∷ xs) ≡ length (x ∷ xs)
    by true e more = absurd (true≢false (sym (ap (λ (c : Bool). c || is_among xs t) e) ∙ h))
    by false e more =
        let at : position_or_len (bytes_eq t) (x ∷ xs) ≡ 1 + position_or_len (bytes_eq t) xs =
        ap (λ (c : Bool). cond (not c) (1 + position_or_len (bytes_eq t) xs) 0) e in
        let last = more (sym (ap (λ (c : Bool). c || is_among xs t) e) ∙ h) in
        omega (arith, at, last)

counted_same : (n k : ℕ) → k < n → (if k == n then n + 1 else n) ≡ n
counted_same n k h = by (k == n) refl
  where
    by : (b : Bool) → (k == n) ≡ b → (if b then n + 1 else n) ≡ n
    by true e = absurd (grind (arith, nat_tests))
    by false e = refl

counted_next : (n k : ℕ) → k ≡ n → (if k == n then n + 1 else n) ≡ n + 1
counted_next n k h = by (k == n) refl
  where
    by : (b : Bool) → (k == n) ≡ b → (if b then n + 1 else n) ≡ n + 1
    by true e = refl
    by false e = absurd (grind (arith, nat_tests))

-- a text counts as one more name where it is new
next_number : (before : List (List ℕ)) (text : List ℕ) →
    (if position_or_len (bytes_eq text) (with_text before text) == length before then length before + 1 else length before) ≡ length
    (with_text before text)
next_number before text = by (is_among before text) refl
  where
    count : List (List ℕ) → ℕ
    count names = if position_or_len (bytes_eq text) names == length before then length before + 1 else length before

    by : (b : Bool) → is_among before text ≡ b → count (with_text before text) ≡ length (with_text before text)
    by true e =
        let same = with_text-among before text e in
        ap count same ∙ counted_same (length before) (position_or_len (bytes_eq text) before) (among-below before text e)
        ∙ sym (ap length same)
    by false e =
        let same = with_text-new before text e in
        let last : position_or_len (bytes_eq text) (before ++ text ∷ []) ≡ length before =
        number-last before text ∙ fresh-last before text e in
        ap count same ∙ counted_next (length before) (position_or_len (bytes_eq text) (before ++ text ∷ [])) last
        ∙ sym (length_push before text) ∙ sym (ap length same)

-- so does the symbol of a token
count_step : (kind : TokenKind) (before : List (List ℕ)) (text : List ℕ) (ss : List Symbol) →
    names_counted (length before) (symbol_by kind (names_with before kind text) text ∷ ss) ≡ names_counted
    (length (names_with before kind text)) ss
count_step Number before text ss = refl
count_step Sign before text ss = by (mark_of_sign text)
  where
    by : (o : Option Mark) → names_counted (length before) (mark_or o (s.Mark Semicolon) ∷ ss) ≡ names_counted (length before) ss
    by None = refl
    by (Some m) = refl
count_step Word before text ss = by (mark_of_word text)
  where
    added : Option Mark → List (List ℕ)
    added o = if not (is_some o) then with_text before text else before

    by : (o : Option Mark) →
        names_counted (length before) (mark_or o (s.Name (record { 0 = position_or_len (bytes_eq text) (added o) })) ∷ ss) ≡ names_counted
        (length (added o)) ss
    by (Some m) = refl
    by None = ap (λ (n : ℕ). names_counted n ss) (next_number before text)

-- the symbols of tokens count their names
pub counted : (bytes : List ℕ) (before : List (List ℕ)) (ts : List Token) →
    names_counted (length before) (token_symbols bytes before ts) ≡ length (names_after bytes before ts)
unfolding symbol_of
counted bytes before [] = refl
counted bytes before (t ∷ ts) =
    let text = text_of bytes t in
    let now = names_with before t.kind text in
    let rest = grown-names_after bytes now ts in
    let symbol : symbol_by t.kind (names_after bytes now ts) text ≡ symbol_by t.kind now text =
    ap (λ (l : List (List ℕ)). symbol_by t.kind l text) rest.1
    ∙ symbol_by-append t.kind now rest.0 text (known-names_with before t.kind text) in
    ap (λ (u : Symbol). names_counted (length before) (u ∷ token_symbols bytes now ts)) symbol
    ∙ count_step t.kind before text (token_symbols bytes now ts) ∙ counted bytes now ts

-- a table cut to the names that the first symbols count has the names of the first tokens
pub names_cut : (bytes : List ℕ) (before : List (List ℕ)) (n : ℕ) (ts : List Token) →
    take (names_counted (length before) (take n (token_symbols bytes before ts))) (names_after bytes before ts) ≡ names_after bytes before
    (take n ts)
names_cut bytes before n ts =
    let all = names_after bytes before ts in
    let names = names_after bytes before (take n ts) in
    let grown = names-take bytes before n ts in
    ap (λ (us : List Symbol). take (names_counted (length before) us) all) (signs-take bytes before n ts)
    ∙ ap (λ (k : ℕ). take k all) (counted bytes before (take n ts))
    ∙ ap (take (length names)) grown.1
    ∙ take-append_seam names grown.0

-- so has a table of all names that is cut by the symbols
pub cut_names : (bytes : List ℕ) (before : List (List ℕ)) (n : ℕ) (ts : List Token) (symbols : List Symbol) (table names : List (List ℕ)) →
    symbols ≡ token_symbols bytes before ts → table ≡ names_after bytes before ts →
    names ≡ take (names_counted (length before) (take n symbols)) table → names ≡ names_after bytes before (take n ts)
cut_names bytes before n ts symbols table names same all cut =
    cut
    ∙ ap (λ (l : List Symbol). take (names_counted (length before) (take n l)) table) same
    ∙ ap (take (names_counted (length before) (take n (token_symbols bytes before ts)))) all
    ∙ names_cut bytes before n ts
