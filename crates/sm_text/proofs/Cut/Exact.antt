-- The tokens of a text are those into which it is cut.
use Rattle.sm_text.proofs.Imports.{◌≡◌, ℕ, zero, suc, ◌+◌, ◌<◌, Bool, true, false, true≢false, not, ◌||◌, Option, Some, None, is_some, List, [], ◌∷◌, ◌++◌, length, refl, sym, ap, subst, ◌∙◌, arith, is_ascii_digit, list_all, Front, Lexed, is_space, is_hash, is_in_line, is_word_start, is_word_byte, mark_of_sign, by_front, with_token, lexed_after, TokenKind, Word, Number, Sign, LexFault, LexKind, BadByte, BadToken, WideNumber, begins, IsToken, Ends, IsStuck, is_half, HasNumber, IsFaultOf, IsCutInto, end, comment, token, TokensAreCut}
use Rattle.std.proofs.Common.{length-append, nat_le}
use Rattle.sm_syntax.specs.text.Tokens.{Gap, Piece, Fault, front_of, sign_at, lexed_from, lexed}
use Rattle.sm_syntax.specs.declared.token.Token.{Token}
use Rattle.sm_text.specs.lexing.Cutting.{space, fault}
use Rattle.sm_text.proofs.RoundTrip.PieceTokens.{lexed_from-cons, behind_first, lexed-token, front-space, front-word, front-number, front-two, and-false, run_of}
use Rattle.sm_text.proofs.Cut.Standing.{Stands, a_space, a_comment, a_token, a_fault, stands, opens_sign, is_sign_text, sign_text, first_of_text, number_begins, digit_in_word, or-left}

-- the front of any bytes; of no bytes it says nothing
abbrev pub front : List ℕ → Front
front [] = Fault BadByte
front (b ∷ rest) = front_of b (b ∷ rest)

-- white space and comments are passed over
passed : (u v : List ℕ) (place size : ℕ) → size ≡ length u → 0 < length u → front (u ++ v) ≡ Gap size →
    lexed_from place (u ++ v) ≡ lexed_from (place + length u) v
passed [] v place size is some h = absurd (omega (arith, some))
passed (b ∷ u) v place size is some h =
    lexed_from-cons place b (u ++ v) ∙
    ap (λ (f : Front). by_front f place (λ left. lexed_after left (place + 1) (u ++ v))) (h ∙ ap Gap is) ∙
    behind_first u v place b

-- a token is put before what follows
put : (u v : List ℕ) (place : ℕ) (k : TokenKind) → 0 < length u → front (u ++ v) ≡ Piece k (length u) →
    lexed_from place (u ++ v) ≡ with_token (record { kind = k; place = place; size = length u }) (lexed_from (place + length u) v)
put [] v place k some h = absurd (omega (arith, some))
put (b ∷ u) v place k some h = lexed-token b u v k place h

-- a fault ends the tokens
stopped : (bytes : List ℕ) (place : ℕ) (k : LexKind) → 0 < length bytes → front bytes ≡ Fault k →
    lexed_from place bytes ≡ ([], Some (record { kind = k; place = place }))
stopped [] place k some h = absurd (omega (arith, some))
stopped (b ∷ u) place k some h = lexed_from-cons place b u ∙ ap (λ (f : Front). by_front f place (λ left. lexed_after left (place + 1) u)) h

nothing : (place : ℕ) → lexed_from place [] ≡ ([], None)
unfolding lexed_from
nothing place = refl

-- a token has at least one byte
token_some : (kind : TokenKind) (text : List ℕ) → IsToken kind text → 0 < length text
token_some Word [] is = absurd (true≢false (sym is.0.start))
token_some Word (b ∷ u) is = omega arith
token_some Number text is = is.0.some
token_some Sign [] is = absurd (true≢false (sym (sign_text [] is)))
token_some Sign (b ∷ u) is = omega arith

front_stands : (bytes : List ℕ) → 0 < length bytes → Stands bytes (front bytes)
front_stands [] some = absurd (omega (arith, some))
front_stands (b ∷ rest) some = stands b rest

-- where the tokens say how bytes are cut, they are cut so
abbrev pub IsCutSo : ℕ → List ℕ → Lexed → Type 0
IsCutSo place bytes l = IsCutInto place bytes l.0 l.1

shorter : (u v : List ℕ) → 0 < length u → length v < length (u ++ v)
shorter u v some = omega (arith, length-append u v, some)

cut_by : (place : ℕ) (bytes : List ℕ) (f : Front) → 0 < length bytes → front bytes ≡ f → Stands bytes f →
    ((at : ℕ) (rest : List ℕ) → length rest < length bytes → IsCutSo at rest (lexed_from at rest)) →
    IsCutSo place bytes (lexed_from place bytes)
cut_by place bytes (Gap size) some h (a_space b rest same is) more =
    let P : List ℕ → Type 0 = λ l. IsCutSo place l (lexed_from place l) in
    let at : front ((b ∷ []) ++ rest) ≡ Gap 1 = ap front (sym same) ∙ h in
    let rest_cut = more (place + 1) rest (subst (λ l. length rest < length l) (sym same) (omega arith)) in
    subst P (sym same) (subst (IsCutSo place (b ∷ rest)) (sym (passed (b ∷ []) rest place 1 refl (omega arith) at))
    (space place b rest _ _ is rest_cut))
cut_by place bytes f some h (a_comment body rest same all ends) more =
    let P : List ℕ → Type 0 = λ l. IsCutSo place l (lexed_from place l) in
    let size = length (35 ∷ body) in
    let at : front ((35 ∷ body) ++ rest) ≡ Gap size = ap front (sym same) ∙ h in
    let rest_cut = more (place + size) rest (subst (λ l. length rest < length l) (sym same) (shorter (35 ∷ body) rest (omega arith))) in
    subst P (sym same) (subst (IsCutSo place (35 ∷ body ++ rest)) (sym (passed (35 ∷ body) rest place size refl (omega arith) at))
    (comment place body rest _ _ all ends rest_cut))
cut_by place bytes f some h (a_token kind text after same is ends) more =
    let P : List ℕ → Type 0 = λ l. IsCutSo place l (lexed_from place l) in
    let at : front (text ++ after) ≡ Piece kind (length text) = ap front (sym same) ∙ h in
    let one = token_some kind text is in
    let rest_cut = more (place + length text) after (subst (λ l. length after < length l) (sym same) (shorter text after one)) in
    subst P (sym same) (subst (IsCutSo place (text ++ after)) (sym (put text after place kind one at))
    (token place kind text after _ _ is ends rest_cut))
cut_by place bytes f some h (a_fault kind stuck of) more =
    subst (IsCutSo place bytes) (sym (stopped bytes place kind some h)) (fault place kind bytes stuck of)

cut : (n place : ℕ) (bytes : List ℕ) → length bytes < n → IsCutSo place bytes (lexed_from place bytes)
cut zero place bytes h = absurd (omega (arith, h))
cut (suc n) place [] h = subst (IsCutSo place []) (sym (nothing place)) (end place)
cut (suc n) place (b ∷ rest) h =
    cut_by place (b ∷ rest) (front_of b (b ∷ rest)) (omega arith) refl (stands b rest) (λ at l small. cut n at l (omega (arith, small, h)))

comment_front : (body rest : List ℕ) → list_all is_in_line body ≡ true → begins is_in_line rest ≡ false →
    front (35 ∷ body ++ rest) ≡ Gap (length (35 ∷ body))
unfolding front_of
comment_front body rest all ends = ap Gap (run_of is_in_line (35 ∷ body) rest all ends)

space_front : (b : ℕ) (rest : List ℕ) → is_space b ≡ true → front (b ∷ rest) ≡ Gap 1
space_front b rest is = front-space b (b ∷ rest) is

none_of : (s t u v : Bool) → not (s || t || u || v) ≡ true → (s ≡ false) × (t ≡ false) × (u ≡ false) × (v ≡ false)
none_of false false false false h = (refl, refl, refl, refl)
none_of false false false true h = absurd (true≢false (sym h))
none_of false false true v h = absurd (true≢false (sym h))
none_of false true u v h = absurd (true≢false (sym h))
none_of true t u v h = absurd (true≢false (sym h))

one_front : (b : ℕ) (v : List ℕ) → opens_sign b ≡ true → is_some (mark_of_sign (b ∷ [])) ≡ true → Ends Sign (b ∷ []) v →
    front (b ∷ v) ≡ Piece Sign 1
unfolding front_of sign_at
one_front b [] opens single ends =
    let o = none_of (is_space b) (is_hash b) (is_word_start b) (is_ascii_digit b) opens in
    rw (o.0, o.1, o.2, o.3, single) refl
one_front b (c ∷ v) opens single ends =
    let o = none_of (is_space b) (is_hash b) (is_word_start b) (is_ascii_digit b) opens in
    let double = ends (c ∷ []) v refl (omega arith) in
    rw (o.0, o.1, o.2, o.3, double, and-false (nat_le 2 (length (b ∷ c ∷ v))), single) refl

sign_front : (text v : List ℕ) → is_sign_text text ≡ true → is_some (mark_of_sign text) ≡ true → Ends Sign text v →
    front (text ++ v) ≡ Piece Sign (length text)
sign_front [] v opens is ends = absurd (true≢false (sym opens))
sign_front (b ∷ []) v opens is ends = one_front b v opens is ends
sign_front (b ∷ c ∷ []) v opens is ends =
    let o = none_of (is_space b) (is_hash b) (is_word_start b) (is_ascii_digit b) opens in
    front-two b c v o.0 o.1 o.2 o.3 is
sign_front (b ∷ c ∷ d ∷ more) v opens is ends = absurd (true≢false (sym opens))

token_front : (kind : TokenKind) (text v : List ℕ) → IsToken kind text → Ends kind text v → front (text ++ v) ≡ Piece kind (length text)
token_front Word [] v is ends = absurd (true≢false (sym is.0.start))
token_front Word (b ∷ u) v is ends = front-word b u v is.0.start is.0.bytes is.1 ends
token_front Number [] v is ends = absurd (omega (arith, is.0.some))
token_front Number (b ∷ u) v is ends = front-number b u v is.0.digits is.1 ends
token_front Sign text v is ends = sign_front text v (sign_text text is) is ends

number_first : (bytes : List ℕ) → HasNumber bytes → begins (λ b. is_word_byte b || is_half b) bytes ≡ true
number_first [] n = by n.text n.same (number_begins n.text n.number)
  where
    by : (text : List ℕ) → [] ≡ text ++ n.after → begins is_ascii_digit text ≡ true → false ≡ true
    by [] same h = h
    by (b ∷ u) same h = absurd (omega (arith, ap length same))
number_first (b ∷ rest) n =
    or-left (is_word_byte b) (is_half b)
    (digit_in_word b (first_of_text is_ascii_digit b rest n.text n.after n.same (number_begins n.text n.number)))

same_fault : (bytes : List ℕ) (k l : LexKind) → IsFaultOf k bytes → IsFaultOf l bytes → k ≡ l
same_fault bytes BadByte BadByte a b = refl
same_fault bytes BadByte BadToken a b = absurd (true≢false (sym b.0 ∙ a))
same_fault bytes BadByte WideNumber a b = absurd (true≢false (sym (number_first bytes b) ∙ a))
same_fault bytes BadToken BadByte a b = absurd (true≢false (sym a.0 ∙ b))
same_fault bytes BadToken BadToken a b = refl
same_fault bytes BadToken WideNumber a b = absurd (a.1 b)
same_fault bytes WideNumber BadByte a b = absurd (true≢false (sym (number_first bytes a) ∙ b))
same_fault bytes WideNumber BadToken a b = absurd (b.1 a)
same_fault bytes WideNumber WideNumber a b = refl

fault_front : (bytes : List ℕ) (k : LexKind) → IsStuck bytes → IsFaultOf k bytes → front bytes ≡ Fault k
fault_front bytes k stuck of = by (front bytes) (front_stands bytes stuck.some)
  where
    by : (f : Front) → Stands bytes f → f ≡ Fault k
    by f (a_space b rest same is) = absurd (true≢false (sym (ap (begins is_space) same ∙ is) ∙ stuck.space))
    by f (a_comment body rest same all ends) = absurd (true≢false (sym (ap (begins is_hash) same) ∙ stuck.hash))
    by f (a_token kind text after same is ends) = absurd (stuck.token kind text after same is ends)
    by f (a_fault l again other) = ap Fault (same_fault bytes l k other of)

cut_lexed : (place : ℕ) (bytes : List ℕ) (ts : List Token) (f : Option LexFault) → IsCutInto place bytes ts f →
    lexed_from place bytes ≡ (ts, f)
cut_lexed _ _ _ _ (end place) = nothing place
cut_lexed _ _ _ _ (space place b rest ts f is c) =
    passed (b ∷ []) rest place 1 refl (omega arith) (space_front b rest is) ∙ cut_lexed (place + 1) rest ts f c
cut_lexed _ _ _ _ (comment place body rest ts f all ends c) =
    passed (35 ∷ body) rest place (length (35 ∷ body)) refl (omega arith) (comment_front body rest all ends)
    ∙ cut_lexed (place + length (35 ∷ body)) rest ts f c
cut_lexed _ _ _ _ (token place kind text rest ts f is ends c) =
    put text rest place kind (token_some kind text is) (token_front kind text rest is ends) ∙
    ap (with_token (record { kind = kind; place = place; size = length text })) (cut_lexed (place + length text) rest ts f c)
cut_lexed _ _ _ _ (fault place kind bytes stuck of) = stopped bytes place kind stuck.some (fault_front bytes kind stuck of)

pub tokens_are_cut : TokensAreCut
unfolding lexed
tokens_are_cut bytes ts f = (
  λ e. subst (IsCutSo 0 bytes) (sym e) (cut (length bytes + 1) 0 bytes (omega arith)),
  λ c. sym (cut_lexed 0 bytes ts f c),
)
