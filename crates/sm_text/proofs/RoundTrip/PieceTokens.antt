-- The tokens of a printed text: each piece is cut as it was put.
use Rattle.sm_text.proofs.Imports.{◌≡◌, ℕ, ◌+◌, ◌-◌, ◌^◌, ◌==◌, ◌<◌, ◌≤◌, Bool, true, false, ◌&&◌, List, [], ◌∷◌, ◌++◌, length, take, nat_lt, ◌%◌, refl, sym, ap, subst, ◌∙◌, is_some, eq-eqb, lit<, arith, nat_tests, decimal_by_steps_wide, decimal_is_IsNumeral_wide, list_all-append, decimal, is_ascii_digit, prefix_len, list_all, digits_value, Mark, Front, is_space, is_hash, is_word_start, is_word_byte, by_front, with_token, lexed_after, TokenKind, BadToken, WideNumber, spelling}
use Rattle.std.proofs.Common.{if◌then◌else◌, nat_le}
use Rattle.sm_syntax.specs.declared.symbol.Mark.TheVariants as mark
use Rattle.sm_syntax.specs.declared.token.TokenKind.TheVariants as kind
use Rattle.sm_syntax.specs.text.Tokens.{Gap, Piece, Fault, front_of, word_at, number_at, sign_at, mark_of_sign, signs, lexed_from}

pub both-left : (a b : Bool) → (a && b) ≡ true → a ≡ true
both-left true b h = refl
both-left false b h = h

pub both-right : (a b : Bool) → (a && b) ≡ true → b ≡ true
both-right true b h = h
both-right false b h = cc

pub lexed_from-cons : (place b : ℕ) (bytes : List ℕ) → lexed_from place (b ∷ bytes) ≡ by_front (front_of b (b ∷ bytes)) place
    (λ left. lexed_after left (place + 1) bytes)
unfolding lexed_from
lexed_from-cons place b bytes = refl

-- whether a text begins with such a byte
abbrev pub begins : (ℕ → Bool) → List ℕ → Bool
begins p [] = false
begins p (b ∷ v) = p b

-- after the bytes that are left of a front
behind_front : (u v : List ℕ) (place : ℕ) → lexed_after (length u) place (u ++ v) ≡ lexed_after 0 (place + length u) v
behind_front [] v place = ap (λ (p : ℕ). lexed_after 0 p v) (omega arith)
behind_front (b ∷ u) v place = behind_front u v (place + 1) ∙ ap (λ (p : ℕ). lexed_after 0 p v) (omega arith)

pub behind_first : (u v : List ℕ) (place : ℕ) (b : ℕ) →
    lexed_after (length (b ∷ u) - 1) (place + 1) (u ++ v) ≡ lexed_from (place + length (b ∷ u)) v
unfolding lexed_from
behind_first u v place b =
    let last : length (b ∷ u) - 1 ≡ length u = omega arith in
    ap (λ (n : ℕ). lexed_after n (place + 1) (u ++ v)) last ∙ behind_front u v (place + 1) ∙ ap (λ (p : ℕ). lexed_after 0 p v) (omega arith)

-- a token that its front names is cut whole
pub lexed-token : (b : ℕ) (u v : List ℕ) (k : TokenKind) (place : ℕ) → front_of b ((b ∷ u) ++ v) ≡ Piece k (length (b ∷ u)) →
    lexed_from place ((b ∷ u) ++ v) ≡ with_token (record { kind = k; place = place; size = length (b ∷ u) })
    (lexed_from (place + length (b ∷ u)) v)
lexed-token b u v k place front =
    lexed_from-cons place b (u ++ v) ∙
    ap (λ (f : Front). by_front f place (λ left. lexed_after left (place + 1) (u ++ v))) front ∙
    ap (with_token (record { kind = k; place = place; size = length (b ∷ u) })) (behind_first u v place b)

-- white space is passed over
pub front-space : (b : ℕ) (bytes : List ℕ) → is_space b ≡ true → front_of b bytes ≡ Gap 1
unfolding front_of
front-space b bytes h = rw h refl

pub lexed-gap : (u v : List ℕ) (place : ℕ) → list_all is_space u ≡ true → lexed_from place (u ++ v) ≡ lexed_from (place + length u) v
lexed-gap [] v place h = ap (λ (p : ℕ). lexed_from p v) (omega arith)
lexed-gap (b ∷ u) v place h =
    let here : is_space b ≡ true = both-left (is_space b) (list_all is_space u) h in
    let rest : list_all is_space u ≡ true = both-right (is_space b) (list_all is_space u) h in
    lexed_from-cons place b (u ++ v) ∙
    ap (λ (f : Front). by_front f place (λ left. lexed_after left (place + 1) (u ++ v))) (front-space b (b ∷ (u ++ v)) here) ∙
    behind_first [] (u ++ v) place b ∙
    lexed-gap u v (place + 1) rest ∙ ap (λ (p : ℕ). lexed_from p v) (omega arith)

-- a run of such bytes ends where none follows
pub run_of : (p : ℕ → Bool) (u v : List ℕ) → list_all p u ≡ true → begins p v ≡ false → prefix_len p (u ++ v) ≡ length u
run_of p [] [] all ends = refl
run_of p [] (b ∷ v) all ends = ap (λ (t : Bool). if t then 1 + prefix_len p v else 0) ends
run_of p (b ∷ u) v all ends =
    let here : p b ≡ true = both-left (p b) (list_all p u) all in
    let rest : list_all p u ≡ true = both-right (p b) (list_all p u) all in
    ap (λ (t : Bool). if t then 1 + prefix_len p (u ++ v) else 0) here ∙ ap (λ (n : ℕ). 1 + n) (run_of p u v rest ends) ∙ omega arith

-- a word before anything that isn't a byte of it
pub front-word : (b : ℕ) (u v : List ℕ) → is_word_start b ≡ true → list_all is_word_byte (b ∷ u) ≡ true → length (b ∷ u) ≤ 64 →
    begins is_word_byte v ≡ false →
    front_of b ((b ∷ u) ++ v) ≡ Piece kind.Word (length (b ∷ u))
unfolding front_of word_at
front-word b u v start all short ends =
    let open_space : is_space b ≡ false = grind (arith, nat_tests) in
    let open_hash : is_hash b ≡ false = grind (arith, nat_tests) in
    let narrow : nat_le (length (b ∷ u)) 64 ≡ true = grind (arith, nat_tests) in
    rw (open_space, open_hash, start, run_of is_word_byte (b ∷ u) v all ends, narrow) refl

digit_is_word : (b : ℕ) → is_ascii_digit b ≡ true → is_word_byte b ≡ true
digit_is_word b h = grind (arith, nat_tests)

pub digits_are_word : (u : List ℕ) → list_all is_ascii_digit u ≡ true → list_all is_word_byte u ≡ true
digits_are_word [] h = refl
digits_are_word (b ∷ u) h =
    let here = digit_is_word b (both-left (is_ascii_digit b) (list_all is_ascii_digit u) h) in
    let rest = digits_are_word u (both-right (is_ascii_digit b) (list_all is_ascii_digit u) h) in
    rw (here, rest) refl

-- what doesn't go on with a word doesn't go on with a number
pub no_digit : (v : List ℕ) → begins is_word_byte v ≡ false → begins is_ascii_digit v ≡ false
no_digit [] h = refl
no_digit (b ∷ v) h = grind (arith, nat_tests)

pub take_front : (u v : List ℕ) → take (length u) (u ++ v) ≡ u
take_front [] v = refl
take_front (b ∷ u) v = ap (λ (l : List ℕ). b ∷ l) (take_front u v)

-- the digits of a number, where its run of digits and its run of word bytes are the same
numbered : (b : ℕ) (u v : List ℕ) (size wide : ℕ) → size ≡ length (b ∷ u) → wide ≡ length (b ∷ u) →
    nat_lt (digits_value 10 (b ∷ u)) (2 ^ 127) ≡ true →
    (if wide == size then (if nat_lt (digits_value 10 (take size ((b ∷ u) ++ v))) (2 ^ 127) then Piece kind.Number size else Fault
    WideNumber) else Fault BadToken) ≡ Piece kind.Number (length (b ∷ u))
numbered b u v size wide is also narrow =
    let n = length (b ∷ u) in
    let at : ℕ → Front = λ size. if nat_lt (digits_value 10 (take size ((b ∷ u) ++ v))) (2 ^ 127) then Piece kind.Number size else Fault
    WideNumber in
    ap (λ (k : ℕ). if wide == k then at k else Fault BadToken) is ∙
    ap (λ (k : ℕ). if k == n then at n else Fault BadToken) also ∙
    ap (λ (t : Bool). if t then at n else Fault BadToken) (eq-eqb n n refl) ∙
    ap (λ (l : List ℕ). if nat_lt (digits_value 10 l) (2 ^ 127) then Piece kind.Number n else Fault WideNumber) (take_front (b ∷ u) v) ∙
    ap (λ (t : Bool). if t then Piece kind.Number n else Fault WideNumber) narrow

number_front : (b : ℕ) (u v : List ℕ) → list_all is_ascii_digit (b ∷ u) ≡ true → digits_value 10 (b ∷ u) < 2 ^ 127 →
    begins is_word_byte v ≡ false →
    number_at ((b ∷ u) ++ v) ≡ Piece kind.Number (length (b ∷ u))
unfolding number_at
number_front b u v all small ends =
    let size : prefix_len is_ascii_digit ((b ∷ u) ++ v) ≡ length (b ∷ u) = run_of is_ascii_digit (b ∷ u) v all (no_digit v ends) in
    let wide : prefix_len is_word_byte ((b ∷ u) ++ v) ≡ length (b ∷ u) = run_of is_word_byte (b ∷ u) v (digits_are_word (b ∷ u) all) ends in
    let narrow : nat_lt (digits_value 10 (b ∷ u)) (2 ^ 127) ≡ true = grind (arith, nat_tests) in
    numbered b u v (prefix_len is_ascii_digit ((b ∷ u) ++ v)) (prefix_len is_word_byte ((b ∷ u) ++ v)) size wide narrow

-- a number before anything that isn't a byte of a word
pub front-number : (b : ℕ) (u v : List ℕ) → list_all is_ascii_digit (b ∷ u) ≡ true → digits_value 10 (b ∷ u) < 2 ^ 127 →
    begins is_word_byte v ≡ false →
    front_of b ((b ∷ u) ++ v) ≡ Piece kind.Number (length (b ∷ u))
unfolding front_of
front-number b u v all small ends =
    let digit : is_ascii_digit b ≡ true = both-left (is_ascii_digit b) (list_all is_ascii_digit u) all in
    let no_space : is_space b ≡ false = grind (arith, nat_tests) in
    let no_hash : is_hash b ≡ false = grind (arith, nat_tests) in
    let no_word : is_word_start b ≡ false = grind (arith, nat_tests) in
    rw (no_space, no_hash, no_word, digit) (number_front b u v all small ends)

pub and-false : (a : Bool) → (a && false) ≡ false
and-false true = refl
and-false false = refl

-- a sign of one byte, where no `=` follows
front-one : (c : ℕ) (v : List ℕ) → is_space c ≡ false → is_hash c ≡ false → is_word_start c ≡ false → is_ascii_digit c ≡ false →
    is_some (mark_of_sign (c ∷ [])) ≡ true →
    ((x : ℕ) → (x == 61) ≡ false → is_some (mark_of_sign (c ∷ x ∷ [])) ≡ false) → begins (λ x. x == 61) v ≡ false →
    front_of c (c ∷ v) ≡ Piece kind.Sign 1
unfolding front_of sign_at
front-one c [] no_space no_hash no_word no_digit single double ends = rw (no_space, no_hash, no_word, no_digit, single) refl
front-one c (x ∷ v) no_space no_hash no_word no_digit single double ends =
    rw (no_space, no_hash, no_word, no_digit, double x ends, and-false (nat_le 2 (length (c ∷ x ∷ v))), single) refl

-- a sign of two bytes
pub front-two : (c d : ℕ) (v : List ℕ) → is_space c ≡ false → is_hash c ≡ false → is_word_start c ≡ false → is_ascii_digit c ≡ false →
    is_some (mark_of_sign (c ∷ d ∷ [])) ≡ true →
    front_of c (c ∷ d ∷ v) ≡ Piece kind.Sign 2
unfolding front_of sign_at
front-two c d v no_space no_hash no_word no_digit double =
    let long : nat_le 2 (length (c ∷ d ∷ v)) ≡ true = grind (arith, nat_tests) in
    rw (no_space, no_hash, no_word, no_digit, double, long) refl

-- the bytes u are cut as a token where v follows them
pub record Cuts (u v : List ℕ) (k : TokenKind) : Type 0 where
  pub cut : (place : ℕ) → lexed_from place (u ++ v) ≡ with_token (record { kind = k; place = place; size = length u })
      (lexed_from (place + length u) v)

pub word_cut : (b : ℕ) (u v : List ℕ) → is_word_start b ≡ true → list_all is_word_byte (b ∷ u) ≡ true → length (b ∷ u) ≤ 64 →
    begins is_word_byte v ≡ false → Cuts (b ∷ u) v kind.Word
word_cut b u v start all short ends =
    record { cut = λ (place : ℕ). lexed-token b u v kind.Word place (front-word b u v start all short ends) }

one_cut : (c : ℕ) (v : List ℕ) → is_space c ≡ false → is_hash c ≡ false → is_word_start c ≡ false → is_ascii_digit c ≡ false →
    is_some (mark_of_sign (c ∷ [])) ≡ true →
    ((x : ℕ) → (x == 61) ≡ false → is_some (mark_of_sign (c ∷ x ∷ [])) ≡ false) → begins (λ x. x == 61) v ≡ false →
    Cuts (c ∷ []) v kind.Sign
one_cut c v no_space no_hash no_word no_digit single double ends =
    record { cut = λ (place : ℕ). lexed-token c [] v kind.Sign place (front-one c v no_space no_hash no_word no_digit single double ends) }

two_cut : (c d : ℕ) (v : List ℕ) → is_space c ≡ false → is_hash c ≡ false → is_word_start c ≡ false → is_ascii_digit c ≡ false →
    is_some (mark_of_sign (c ∷ d ∷ [])) ≡ true → Cuts (c ∷ d ∷ []) v kind.Sign
two_cut c d v no_space no_hash no_word no_digit double =
    record { cut = λ (place : ℕ). lexed-token c (d ∷ []) v kind.Sign place (front-two c d v no_space no_hash no_word no_digit double) }

-- whether a mark is a reserved word
abbrev pub is_reserved : Mark → Bool
is_reserved mark.Var = true
is_reserved mark.Array = true
is_reserved mark.Output = true
is_reserved mark.Shared = true
is_reserved mark.Base = true
is_reserved mark.VariantA = true
is_reserved mark.VariantB = true
is_reserved mark.Candidate = true
is_reserved mark.Skip = true
is_reserved mark.If = true
is_reserved mark.Else = true
is_reserved mark.While = true
is_reserved mark.True = true
is_reserved mark.False = true
is_reserved mark.Assume = true
is_reserved mark.OpenRound = false
is_reserved mark.CloseRound = false
is_reserved mark.OpenCurly = false
is_reserved mark.CloseCurly = false
is_reserved mark.OpenSquare = false
is_reserved mark.CloseSquare = false
is_reserved mark.Semicolon = false
is_reserved mark.Comma = false
is_reserved mark.Question = false
is_reserved mark.Becomes = false
is_reserved mark.Plus = false
is_reserved mark.Minus = false
is_reserved mark.Star = false
is_reserved mark.Bang = false
is_reserved mark.Less = false
is_reserved mark.Greater = false
is_reserved mark.Equal = false
is_reserved mark.Unequal = false
is_reserved mark.AtMost = false
is_reserved mark.AtLeast = false
is_reserved mark.Both = false
is_reserved mark.Either = false

-- the kind of a mark's token, and which bytes would go on with it
abbrev pub mark_kind : Mark → TokenKind
mark_kind m = if is_reserved m then kind.Word else kind.Sign

abbrev pub goes_on_mark : Mark → ℕ → Bool
goes_on_mark m b = if is_reserved m then is_word_byte b else b == 61

pub mark_cut : (m : Mark) (v : List ℕ) → begins (goes_on_mark m) v ≡ false → Cuts (spelling m) v (mark_kind m)
unfolding mark_of_sign signs
mark_cut mark.Var v ends = word_cut 118 (97 ∷ 114 ∷ []) v refl refl (omega arith) ends
mark_cut mark.Array v ends = word_cut 97 (114 ∷ 114 ∷ 97 ∷ 121 ∷ []) v refl refl (omega arith) ends
mark_cut mark.Output v ends = word_cut 111 (117 ∷ 116 ∷ 112 ∷ 117 ∷ 116 ∷ []) v refl refl (omega arith) ends
mark_cut mark.Shared v ends = word_cut 115 (104 ∷ 97 ∷ 114 ∷ 101 ∷ 100 ∷ []) v refl refl (omega arith) ends
mark_cut mark.Base v ends = word_cut 98 (97 ∷ 115 ∷ 101 ∷ []) v refl refl (omega arith) ends
mark_cut mark.VariantA v ends = word_cut 118 (97 ∷ 114 ∷ 105 ∷ 97 ∷ 110 ∷ 116 ∷ 95 ∷ 97 ∷ []) v refl refl (omega arith) ends
mark_cut mark.VariantB v ends = word_cut 118 (97 ∷ 114 ∷ 105 ∷ 97 ∷ 110 ∷ 116 ∷ 95 ∷ 98 ∷ []) v refl refl (omega arith) ends
mark_cut mark.Candidate v ends = word_cut 99 (97 ∷ 110 ∷ 100 ∷ 105 ∷ 100 ∷ 97 ∷ 116 ∷ 101 ∷ []) v refl refl (omega arith) ends
mark_cut mark.Skip v ends = word_cut 115 (107 ∷ 105 ∷ 112 ∷ []) v refl refl (omega arith) ends
mark_cut mark.If v ends = word_cut 105 (102 ∷ []) v refl refl (omega arith) ends
mark_cut mark.Else v ends = word_cut 101 (108 ∷ 115 ∷ 101 ∷ []) v refl refl (omega arith) ends
mark_cut mark.While v ends = word_cut 119 (104 ∷ 105 ∷ 108 ∷ 101 ∷ []) v refl refl (omega arith) ends
mark_cut mark.True v ends = word_cut 116 (114 ∷ 117 ∷ 101 ∷ []) v refl refl (omega arith) ends
mark_cut mark.False v ends = word_cut 102 (97 ∷ 108 ∷ 115 ∷ 101 ∷ []) v refl refl (omega arith) ends
mark_cut mark.Assume v ends = word_cut 97 (115 ∷ 115 ∷ 117 ∷ 109 ∷ 101 ∷ []) v refl refl (omega arith) ends
mark_cut mark.OpenRound v ends = one_cut 40 v refl refl refl refl refl (λ x h. refl) ends
mark_cut mark.CloseRound v ends = one_cut 41 v refl refl refl refl refl (λ x h. refl) ends
mark_cut mark.OpenCurly v ends = one_cut 123 v refl refl refl refl refl (λ x h. refl) ends
mark_cut mark.CloseCurly v ends = one_cut 125 v refl refl refl refl refl (λ x h. refl) ends
mark_cut mark.OpenSquare v ends = one_cut 91 v refl refl refl refl refl (λ x h. refl) ends
mark_cut mark.CloseSquare v ends = one_cut 93 v refl refl refl refl refl (λ x h. refl) ends
mark_cut mark.Semicolon v ends = one_cut 59 v refl refl refl refl refl (λ x h. refl) ends
mark_cut mark.Comma v ends = one_cut 44 v refl refl refl refl refl (λ x h. refl) ends
mark_cut mark.Question v ends = one_cut 63 v refl refl refl refl refl (λ x h. refl) ends
mark_cut mark.Becomes v ends = one_cut 61 v refl refl refl refl refl (λ x h. rw h refl) ends
mark_cut mark.Plus v ends = one_cut 43 v refl refl refl refl refl (λ x h. refl) ends
mark_cut mark.Minus v ends = one_cut 45 v refl refl refl refl refl (λ x h. refl) ends
mark_cut mark.Star v ends = one_cut 42 v refl refl refl refl refl (λ x h. refl) ends
mark_cut mark.Bang v ends = one_cut 33 v refl refl refl refl refl (λ x h. rw h refl) ends
mark_cut mark.Less v ends = one_cut 60 v refl refl refl refl refl (λ x h. rw h refl) ends
mark_cut mark.Greater v ends = one_cut 62 v refl refl refl refl refl (λ x h. rw h refl) ends
mark_cut mark.Equal v ends = two_cut 61 61 v refl refl refl refl refl
mark_cut mark.Unequal v ends = two_cut 33 61 v refl refl refl refl refl
mark_cut mark.AtMost v ends = two_cut 60 61 v refl refl refl refl refl
mark_cut mark.AtLeast v ends = two_cut 62 61 v refl refl refl refl refl
mark_cut mark.Both v ends = two_cut 38 38 v refl refl refl refl refl
mark_cut mark.Either v ends = two_cut 124 124 v refl refl refl refl refl

-- the digits of a number
pub digits_of_decimal : (n : ℕ) → n < 10 ^ 64 → list_all is_ascii_digit (decimal n) ≡ true
digits_of_decimal n small =
    let P : ℕ → List ℕ → Type 0 = λ m ds. list_all is_ascii_digit ds ≡ true in
    decimal_by_steps_wide P (λ (m : ℕ) (h : m < 10). last_digit m h)
    (λ (m : ℕ) (ds : List ℕ) (h : 10 ≤ m) (front : list_all is_ascii_digit ds ≡ true).
    let unit : m % 10 < 10 = omega arith in
    list_all-append is_ascii_digit ds ((48 + m % 10) ∷ []) ∙ rw (front, last_digit (m % 10) unit) refl)
    n small
  where
    last_digit : (d : ℕ) → d < 10 → list_all is_ascii_digit ((48 + d) ∷ []) ≡ true
    last_digit d h =
        let here : is_ascii_digit (48 + d) ≡ true = grind (arith, nat_tests) in
        rw here refl

-- a list of digits that has some is cut as a number
digits_cut : (u v : List ℕ) → 0 < length u → list_all is_ascii_digit u ≡ true → digits_value 10 u < 2 ^ 127 →
    begins is_word_byte v ≡ false → Cuts u v kind.Number
digits_cut [] v some all small ends = absurd (omega arith)
digits_cut (b ∷ u) v some all small ends =
    record { cut = λ (place : ℕ). lexed-token b u v kind.Number place (front-number b u v all small ends) }

-- a number in decimal is cut whole
pub number_cut : (n : ℕ) (v : List ℕ) → n < 2 ^ 127 → begins is_word_byte v ≡ false → Cuts (decimal n) v kind.Number
number_cut n v small ends =
    let wide : n < 10 ^ 64 = omega (arith, lit< {m = 2 ^ 127} {n = 10 ^ 64} tt) in
    let numeral = decimal_is_IsNumeral_wide n wide in
    let value : digits_value 10 (decimal n) < 2 ^ 127 = subst (λ (m : ℕ). m < 2 ^ 127) (sym numeral.1) small in
    digits_cut (decimal n) v numeral.0.0 (digits_of_decimal n wide) value ends
