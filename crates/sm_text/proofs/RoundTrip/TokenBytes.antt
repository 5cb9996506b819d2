-- Each token of a text has the bytes of its kind.
use Rattle.sm_text.proofs.Imports.{◌≡◌, ℕ, ◌+◌, ◌^◌, ◌<◌, ◌≤◌, Bool, true, false, ◌||◌, ◌&&◌, is_some, List, [], ◌∷◌, length, take, drop, drop-drop, zero, suc, ◌-◌, ◌==◌, codes, one-add, nat_lt, refl, sym, ap, ◌∙◌, subst, arith, nat_tests, is_ascii_digit, prefix_len, list_all, AllByRecursion, bytes_eq, digits_value, Front, is_space, is_hash, is_in_line, is_word_start, is_word_byte, mark_of_sign, by_front, lexed_after, TokenKind, LexKind, BadByte, BadToken, WideNumber}
use Rattle.std.proofs.Common.{if◌then◌else◌, nat_le}
use Rattle.sm_syntax.specs.declared.token.Token as lexical
use Rattle.sm_syntax.specs.declared.token.TokenKind.TheVariants as kind
use Rattle.sm_syntax.specs.text.Tokens.{Gap, Piece, Fault, front_of, word_at, number_at, sign_at, lexed_from, lexed}
use Rattle.sm_syntax.specs.text.Symbols as symbol
use Rattle.sm_text.proofs.RoundTrip.PieceTokens.{begins}

-- a word that begins as one and is short, a number that is not too wide
abbrev pub IsGoodText : TokenKind → List ℕ → Type 0
IsGoodText kind.Word text = (begins is_word_start text ≡ true) × (list_all is_word_byte text ≡ true) × (length text ≤ 64)
IsGoodText kind.Number text = digits_value 10 text < 2 ^ 127
IsGoodText kind.Sign text = Unit {0}

-- a token's bytes are of its kind
abbrev pub Suits : List ℕ → Front → Type 0
Suits bytes (Gap size) = Unit {0}
Suits bytes (Piece k size) = IsGoodText k (take size bytes)
Suits bytes (Fault k) = Unit {0}

pub record IsGood (bytes : List ℕ) (f : Front) : Type 0 where
  pub suits : Suits bytes f

good_if : {bytes : List ℕ} (t : Bool) (a b : Front) → (t ≡ true → IsGood bytes a) → (t ≡ false → IsGood bytes b) →
    IsGood bytes (if t then a else b)
good_if true a b at_true at_false = at_true refl
good_if false a b at_true at_false = at_false refl

run_all : (p : ℕ → Bool) (bytes : List ℕ) → list_all p (take (prefix_len p bytes) bytes) ≡ true
run_all p [] = refl
run_all p (b ∷ bytes) = by (p b) refl (run_all p bytes)
  where
    by : (t : Bool) → p b ≡ t → list_all p (take (prefix_len p bytes) bytes) ≡ true →
        list_all p (take (if t then 1 + prefix_len p bytes else 0) (b ∷ bytes)) ≡ true
    by true e more =
        ap (λ (n : ℕ). list_all p (take n (b ∷ bytes))) (one-add (prefix_len p bytes)) ∙
        ap (λ (t : Bool). t && list_all p (take (prefix_len p bytes) bytes)) e ∙ more
    by false e more = refl

run_first : (p q : ℕ → Bool) (b : ℕ) (bytes : List ℕ) → q b ≡ true → p b ≡ true →
    begins p (take (prefix_len q (b ∷ bytes)) (b ∷ bytes)) ≡ true
run_first p q b bytes at_q at_p =
    ap (λ (t : Bool). begins p (take (if t then 1 + prefix_len q bytes else 0) (b ∷ bytes))) at_q ∙
    ap (λ (n : ℕ). begins p (take n (b ∷ bytes))) (one-add (prefix_len q bytes)) ∙ at_p

run_short : (p : ℕ → Bool) (bytes : List ℕ) → length (take (prefix_len p bytes) bytes) ≤ prefix_len p bytes
run_short p bytes = length_take (prefix_len p bytes) bytes
  where
    length_take : (n : ℕ) (l : List ℕ) → length (take n l) ≤ n
    length_take zero l = omega arith
    length_take (suc n) [] = omega arith
    length_take (suc n) (x ∷ l) = omega (arith, length_take n l)

start_in_word : (b : ℕ) → is_word_start b ≡ true → is_word_byte b ≡ true
start_in_word b h = grind (arith, nat_tests)

no_fault : (bytes : List ℕ) (k : LexKind) → IsGood bytes (Fault k)
no_fault bytes k = record { suits = tt }

word_good : (b : ℕ) (bytes : List ℕ) → is_word_start b ≡ true → IsGood (b ∷ bytes) (word_at (b ∷ bytes))
unfolding word_at
word_good b bytes h =
    let size = prefix_len is_word_byte (b ∷ bytes) in
    let short = run_short is_word_byte (b ∷ bytes) in
    good_if (nat_le size 64) (Piece kind.Word size) (Fault BadToken)
    (λ (p : nat_le size 64 ≡ true).
    let few : size ≤ 64 = grind (arith, nat_tests) in
    record {
      suits = (
        run_first is_word_start is_word_byte b bytes (start_in_word b h) h,
        run_all is_word_byte (b ∷ bytes),
        omega (arith, short, few),
      );
    })
    (λ _. no_fault _ _)

number_good : (bytes : List ℕ) → IsGood bytes (number_at bytes)
unfolding number_at
number_good bytes =
    let size = prefix_len is_ascii_digit bytes in
    let value = digits_value 10 (take size bytes) in
    good_if (prefix_len is_word_byte bytes == size) (if nat_lt value (2 ^ 127) then Piece kind.Number size else Fault WideNumber)
    (Fault BadToken)
    (λ _. good_if (nat_lt value (2 ^ 127)) (Piece kind.Number size) (Fault WideNumber)
    (λ narrow. record { suits = below value (2 ^ 127) narrow }) (λ _. no_fault _ _))
    (λ _. no_fault _ _)
  where
    below : (a b : ℕ) → nat_lt a b ≡ true → a < b
    below a b h = grind (arith, nat_tests)

sign_good : (bytes : List ℕ) → IsGood bytes (sign_at bytes)
unfolding sign_at
sign_good bytes =
    let double = nat_le 2 (length bytes) && is_some (mark_of_sign (take 2 bytes)) in
    let single = is_some (mark_of_sign (take 1 bytes)) in
    let half = bytes_eq (take 1 bytes) (codes "&") || bytes_eq (take 1 bytes) (codes "|") in
    let unknown = if half then Fault BadToken else Fault BadByte in
    good_if double (Piece kind.Sign 2) (if single then Piece kind.Sign 1 else unknown) (λ _. record { suits = tt })
    (λ _. good_if single (Piece kind.Sign 1) unknown (λ _. record { suits = tt })
    (λ _. good_if half (Fault BadToken) (Fault BadByte) (λ _. no_fault _ _) (λ _. no_fault _ _)))

front_good : (b : ℕ) (bytes : List ℕ) → IsGood (b ∷ bytes) (front_of b (b ∷ bytes))
unfolding front_of
front_good b bytes =
    let all = b ∷ bytes in
    let number = if is_ascii_digit b then number_at all else sign_at all in
    let word = if is_word_start b then word_at all else number in
    let comment = if is_hash b then Gap (prefix_len is_in_line all) else word in
    good_if (is_space b) (Gap 1) comment (λ _. record { suits = tt }) (λ _.
    good_if (is_hash b) (Gap (prefix_len is_in_line all)) word (λ _. record { suits = tt }) (λ _.
    good_if (is_word_start b) (word_at all) number (word_good b bytes) (λ _.
    good_if (is_ascii_digit b) (number_at all) (sign_at all) (λ _. number_good all) (λ _. sign_good all))))

-- each token of a text has the bytes of its kind
pub record IsGoodToken (bytes : List ℕ) (t : lexical.Token) : Type 0 where
  pub text : IsGoodText t.kind (symbol.text_of bytes t)

one_on : (bytes : List ℕ) (place b : ℕ) (rest : List ℕ) → drop place bytes ≡ b ∷ rest → drop (place + 1) bytes ≡ rest
one_on bytes place b rest at = sym (drop-drop 1 place bytes) ∙ ap (drop 1) at

tokens_good_behind : (bytes : List ℕ) (left place : ℕ) (rest : List ℕ) → drop place bytes ≡ rest →
    AllByRecursion (IsGoodToken bytes) (lexed_after left place rest).0
tokens_good_behind bytes left place [] at = tt
tokens_good_behind bytes (suc left) place (b ∷ rest) at = tokens_good_behind bytes left (place + 1) rest (one_on bytes place b rest at)
tokens_good_behind bytes zero place (b ∷ rest) at =
    by (front_of b (b ∷ rest)) (front_good b rest).suits
    (λ left. tokens_good_behind bytes left (place + 1) rest (one_on bytes place b rest at))
  where
    by : (f : Front) → Suits (b ∷ rest) f → ((left : ℕ) → AllByRecursion (IsGoodToken bytes) (lexed_after left (place + 1) rest).0)
        → AllByRecursion (IsGoodToken bytes) (by_front f place (λ left. lexed_after left (place + 1) rest)).0
    by (Gap size) good more = more (size - 1)
    by (Piece k size) good more =
        let P : List ℕ → Type 0 = λ l. IsGoodText k (take size l) in
        (record { text = subst P (sym at) good }, more (size - 1))
    by (Fault k) good more = tt

pub tokens_good : (bytes : List ℕ) → AllByRecursion (IsGoodToken bytes) (lexed bytes).0
unfolding lexed lexed_from
tokens_good bytes = tokens_good_behind bytes 0 0 bytes refl
