-- How the tokens of a text go on after what stands at its front.
use Rattle.sm_text.proofs.Imports.{◌≡◌, ℕ, zero, suc, ◌+◌, ◌-◌, ◌<◌, ◌≤◌, Bool, true, false, ◌^◌, ◌==◌, ◌&&◌, ◌||◌, List, [], ◌∷◌, ◌++◌, length, take, drop, get_or, Option, Some, None, is_some, refl, sym, ap, ap₂, subst, ◌∙◌, append_assoc, true≢false, nat_lt, codes, drop-drop, arith, nat_tests, prefix_len-le-length, is_ascii_digit, prefix_len, AllByRecursion, bytes_eq, digits_value, IsText, IsTokenOf, Front, Lexed, is_space, is_hash, is_word_start, is_word_byte, is_in_line, mark_of_sign, by_front, with_token, lexed_after, TokenKind, Word, Number, Sign, LexFault, LexKind, BadByte, BadToken, WideNumber}
use Rattle.std.proofs.Common.{if◌then◌else◌}
use Rattle.std.proofs.Common.{append-nil, nat_le, length-drop}
use Rattle.sm_text.proofs.Cut.Fronts.{AllPass-run, IsAscii-run}
use Rattle.sm_syntax.specs.text.Tokens.{Gap, Piece, Fault, front_of, word_at, number_at, sign_at, lexed_from, lexed}
use Rattle.sm_syntax.specs.declared.token.Token.{Token}

-- a front has at least one byte and no more than there are, and a token's bytes are of its kind
abbrev pub Suits : List ℕ → Front → Type 0
Suits bytes (Gap size) = (0 < size) × (size ≤ length bytes)
Suits bytes (Piece kind size) = (0 < size) × (size ≤ length bytes) × IsText kind (take size bytes)
Suits bytes (Fault kind) = Unit {0}

pub record IsFront (bytes : List ℕ) (f : Front) : Type 0 where
  pub suits : Suits bytes f

IsFront-if : {bytes : List ℕ} (t : Bool) (a b : Front) → (t ≡ true → IsFront bytes a) → (t ≡ false → IsFront bytes b) →
    IsFront bytes (if t then a else b)
IsFront-if true a b at_true at_false = at_true refl
IsFront-if false a b at_true at_false = at_false refl

-- a fault has no size
fault : (bytes : List ℕ) (kind : LexKind) → IsFront bytes (Fault kind)
fault bytes kind = record { suits = tt }

-- a run that begins is not empty
run_within : (p : ℕ → Bool) (b : ℕ) (bytes : List ℕ) → p b ≡ true →
    (0 < prefix_len p (b ∷ bytes)) × (prefix_len p (b ∷ bytes) ≤ length (b ∷ bytes))
run_within p b bytes h =
    let e = ap (λ t. if t then 1 + prefix_len p bytes else 0) h in
    (omega (arith, e), prefix_len-le-length p (b ∷ bytes))

hash_in_line : (b : ℕ) → is_hash b ≡ true → is_in_line b ≡ true
hash_in_line b h = grind (arith, nat_tests)

start_in_word : (b : ℕ) → is_word_start b ≡ true → is_word_byte b ≡ true
start_in_word b h = grind (arith, nat_tests)

both-left : (a b : Bool) → (a && b) ≡ true → a ≡ true
both-left true b h = refl
both-left false b h = h

both-right : (a b : Bool) → (a && b) ≡ true → b ≡ true
both-right true b h = h
both-right false b h = absurd (true≢false (sym h))

IsFront-word_at : (b : ℕ) (bytes : List ℕ) → is_word_start b ≡ true → IsFront (b ∷ bytes) (word_at (b ∷ bytes))
unfolding word_at
IsFront-word_at b bytes h =
    let size = prefix_len is_word_byte (b ∷ bytes) in
    let run = run_within is_word_byte b bytes (start_in_word b h) in
    IsFront-if (nat_le size 64) (Piece Word size) (Fault BadToken) (λ _. record { suits = (run.0, run.1, IsAscii-run (b ∷ bytes)) })
    (λ _. fault _ _)

below : (a b : ℕ) → nat_lt a b ≡ true → a < b
below a b h = grind (arith, nat_tests)

IsFront-number_at : (b : ℕ) (bytes : List ℕ) → is_ascii_digit b ≡ true → IsFront (b ∷ bytes) (number_at (b ∷ bytes))
unfolding number_at
IsFront-number_at b bytes h =
    let size = prefix_len is_ascii_digit (b ∷ bytes) in
    let value = digits_value 10 (take size (b ∷ bytes)) in
    let fits = nat_lt value (2 ^ 127) in
    let run = run_within is_ascii_digit b bytes h in
    IsFront-if (prefix_len is_word_byte (b ∷ bytes) == size) (if fits then Piece Number size else Fault WideNumber) (Fault BadToken)
    (λ _. IsFront-if fits (Piece Number size) (Fault WideNumber)
    (λ narrow. record { suits = (run.0, run.1, (AllPass-run is_ascii_digit (b ∷ bytes), below value (2 ^ 127) narrow)) })
    (λ _. fault _ _))
    (λ _. fault _ _)

two_within : (b : ℕ) (bytes : List ℕ) → nat_le 2 (length (b ∷ bytes)) ≡ true → 2 ≤ length (b ∷ bytes)
two_within b bytes h = grind (arith, nat_tests)

IsFront-sign_at : (b : ℕ) (bytes : List ℕ) → IsFront (b ∷ bytes) (sign_at (b ∷ bytes))
unfolding sign_at
IsFront-sign_at b bytes =
    let long = nat_le 2 (length (b ∷ bytes)) in
    let double = is_some (mark_of_sign (take 2 (b ∷ bytes))) in
    let single = is_some (mark_of_sign (take 1 (b ∷ bytes))) in
    let half = bytes_eq (take 1 (b ∷ bytes)) (codes "&") || bytes_eq (take 1 (b ∷ bytes)) (codes "|") in
    let unknown = if half then Fault BadToken else Fault BadByte in
    IsFront-if (long && double) (Piece Sign 2) (if single then Piece Sign 1 else unknown)
    (λ h. record { suits = (omega arith, two_within b bytes (both-left long double h), both-right long double h) })
    (λ _. IsFront-if single (Piece Sign 1) unknown
    (λ h. record { suits = (omega arith, omega arith, h) })
    (λ _. IsFront-if half (Fault BadToken) (Fault BadByte) (λ _. fault _ _) (λ _. fault _ _)))

pub IsFront-front_of : (b : ℕ) (bytes : List ℕ) → IsFront (b ∷ bytes) (front_of b (b ∷ bytes))
unfolding front_of
IsFront-front_of b bytes =
    let all = b ∷ bytes in
    let number = if is_ascii_digit b then number_at all else sign_at all in
    let word = if is_word_start b then word_at all else number in
    let comment = if is_hash b then Gap (prefix_len is_in_line all) else word in
    IsFront-if (is_space b) (Gap 1) comment (λ _. record { suits = (omega arith, omega arith) }) (λ _.
    IsFront-if (is_hash b) (Gap (prefix_len is_in_line all)) word (λ h. record { suits = run_within is_in_line b bytes (hash_in_line b h) })
    (λ _.
    IsFront-if (is_word_start b) (word_at all) number (IsFront-word_at b bytes) (λ _.
    IsFront-if (is_ascii_digit b) (number_at all) (sign_at all) (IsFront-number_at b bytes) (λ _. IsFront-sign_at b bytes))))

-- what stands after the bytes that are left of a front
lexed_after-drop : (left place : ℕ) (bytes : List ℕ) → lexed_after left place bytes ≡ lexed_after 0 (place + left) (drop left bytes)
lexed_after-drop zero place bytes = ap (λ p. lexed_after 0 p bytes) (omega arith)
lexed_after-drop (suc left) place [] = refl
lexed_after-drop (suc left) place (b ∷ bytes) =
    lexed_after-drop left (place + 1) bytes ∙ ap (λ p. lexed_after 0 p (drop left bytes)) (omega arith)

lexed_after-front : (size place b : ℕ) (bytes : List ℕ) → 0 < size →
    lexed_after (size - 1) (place + 1) bytes ≡ lexed_from (place + size) (drop size (b ∷ bytes))
unfolding lexed_from
lexed_after-front zero place b bytes h = absurd (omega arith)
lexed_after-front (suc m) place b bytes h =
    let last : suc m - 1 ≡ m = omega arith in
    let at : place + 1 + (suc m - 1) ≡ place + suc m = omega arith in
    lexed_after-drop (suc m - 1) (place + 1) bytes ∙ ap₂ (λ p k. lexed_after 0 p (drop k bytes)) at last

-- the tokens by what stands at the front
pub lexed_from-nil : (place : ℕ) → lexed_from place [] ≡ ([], None)
unfolding lexed_from
lexed_from-nil place = refl

lexed_from-cons : (place b : ℕ) (bytes : List ℕ) → lexed_from place (b ∷ bytes) ≡ by_front (front_of b (b ∷ bytes)) place
    (λ left. lexed_after left (place + 1) bytes)
unfolding lexed_from
lexed_from-cons place b bytes = refl

-- tokens before others
abbrev pub with_tokens : List Token → Lexed → Lexed
with_tokens ts l = (ts ++ l.0, l.1)

-- these tokens are cut from the bytes, and these bytes are left
pub record IsCut (bytes : List ℕ) (ts : List Token) (rest : List ℕ) : Type 0 where
  pub same : with_tokens ts (lexed_from (length bytes - length rest) rest) ≡ lexed bytes
  pub within : length rest ≤ length bytes

pub IsCut-start : (bytes : List ℕ) → IsCut bytes [] bytes
unfolding lexed
IsCut-start bytes = record { same = ap (λ p. lexed_from p bytes) (omega arith); within = omega arith }

pub IsCut-end : (bytes : List ℕ) (ts : List Token) (rest : List ℕ) → IsCut bytes ts rest → length rest < 1 →
    ◌≡◌ {A = Lexed} (ts, None) (lexed bytes)
IsCut-end bytes ts [] cut h =
    ap (λ l. (l, None)) (sym (append-nil ts)) ∙ ap (with_tokens ts) (sym (lexed_from-nil (length bytes - 0))) ∙ cut.same
IsCut-end bytes ts (x ∷ xs) cut h = absurd (omega arith)

-- what the front of the bytes that are left is, by their first
front_is : (x : ℕ) (xs : List ℕ) (b : ℕ) (f : Front) → b ≡ get_or (x ∷ xs) 0 0 → front_of b (x ∷ xs) ≡ f → front_of x (x ∷ xs) ≡ f
front_is x xs b f first front = ap (λ c. front_of c (x ∷ xs)) (sym first) ∙ front

suits : (x : ℕ) (xs : List ℕ) (f : Front) → front_of x (x ∷ xs) ≡ f → Suits (x ∷ xs) f
suits x xs f front =
    let P : Front → Type 0 = λ g. Suits (x ∷ xs) g in
    subst P front (IsFront-front_of x xs).suits

-- what the front of the bytes that are left gives
step : (place x : ℕ) (xs : List ℕ) (f : Front) → front_of x (x ∷ xs) ≡ f →
    lexed_from place (x ∷ xs) ≡ by_front f place (λ left. lexed_after left (place + 1) xs)
step place x xs f front = lexed_from-cons place x xs ∙ ap (λ g. by_front g place (λ left. lexed_after left (place + 1) xs)) front

moved : (bytes rest : List ℕ) (size : ℕ) → length rest ≤ length bytes → size ≤ length rest →
    length bytes - length rest + size ≡ length bytes - length (drop size rest)
moved bytes rest size within fits = omega (arith, length-drop size rest)

-- one more front is cut
pub IsCut-gap : (bytes : List ℕ) (ts : List Token) (rest : List ℕ) (b size : ℕ) → IsCut bytes ts rest → 1 ≤ length rest →
    b ≡ get_or rest 0 0 → front_of b rest ≡ Gap size → IsCut bytes ts (drop size rest) × (0 < size) × (size ≤ length rest)
IsCut-gap bytes ts [] b size cut some first front = absurd (omega arith)
IsCut-gap bytes ts (x ∷ xs) b size cut some first front =
    let at = front_is x xs b (Gap size) first front in
    let sizes = suits x xs (Gap size) at in
    let place = length bytes - length (x ∷ xs) in
    let next : lexed_from place (x ∷ xs) ≡ lexed_from (place + size) (drop size (x ∷ xs)) =
    step place x xs (Gap size) at ∙ lexed_after-front size place x xs sizes.0 in (
      record {
        same = ap (λ p. with_tokens ts (lexed_from p (drop size (x ∷ xs)))) (sym (moved bytes (x ∷ xs) size cut.within sizes.1))
            ∙ ap (with_tokens ts) (sym next) ∙ cut.same;
        within = omega (arith, length-drop size (x ∷ xs), cut.within);
      },
      sizes.0,
      sizes.1,
    )

pub IsCut-piece : (bytes : List ℕ) (ts : List Token) (rest : List ℕ) (b : ℕ) (kind : TokenKind) (size : ℕ) → IsCut bytes ts rest →
    1 ≤ length rest → b ≡ get_or rest 0 0 → front_of b rest ≡ Piece kind size
    → IsCut bytes (ts ++ record { kind = kind; place = length bytes - length rest; size = size } ∷ [])
    (drop size rest) × (0 < size) × (size ≤ length rest)
IsCut-piece bytes ts [] b kind size cut some first front = absurd (omega arith)
IsCut-piece bytes ts (x ∷ xs) b kind size cut some first front =
    let at = front_is x xs b (Piece kind size) first front in
    let sizes = suits x xs (Piece kind size) at in
    let place = length bytes - length (x ∷ xs) in
    let t : Token = record { kind = kind; place = place; size = size } in
    let next : lexed_from place (x ∷ xs) ≡ with_token t (lexed_from (place + size) (drop size (x ∷ xs))) =
    step place x xs (Piece kind size) at ∙ ap (with_token t) (lexed_after-front size place x xs sizes.0) in
    let more = lexed_from (place + size) (drop size (x ∷ xs)) in (
      record {
        same =
            ap (λ p. with_tokens (ts ++ t ∷ []) (lexed_from p (drop size (x ∷ xs)))) (sym (moved bytes (x ∷ xs) size cut.within sizes.1))
            ∙ ap (λ l. (l, more.1)) (append_assoc ts (t ∷ []) more.0)
            ∙ ap (with_tokens ts) (sym next)
            ∙ cut.same;
        within = omega (arith, length-drop size (x ∷ xs), cut.within);
      },
      sizes.0,
      sizes.1,
    )

pub IsCut-fault : (bytes : List ℕ) (ts : List Token) (rest : List ℕ) (b : ℕ) (kind : LexKind) → IsCut bytes ts rest → 1 ≤ length rest →
    b ≡ get_or rest 0 0 → front_of b rest ≡ Fault kind
    → ◌≡◌ {A = Lexed} (ts, Some (record { kind = kind; place = length bytes - length rest })) (lexed bytes)
IsCut-fault bytes ts [] b kind cut some first front = absurd (omega arith)
IsCut-fault bytes ts (x ∷ xs) b kind cut some first front =
    let at = front_is x xs b (Fault kind) first front in
    let place = length bytes - length (x ∷ xs) in
    let f : Option LexFault = Some (record { kind = kind; place = place }) in
    ap (λ l. (l, f)) (sym (append-nil ts)) ∙ ap (with_tokens ts) (sym (step place x xs (Fault kind) at)) ∙ cut.same

-- what is left after one byte
one_on : (bytes : List ℕ) (place b : ℕ) (rest : List ℕ) → drop place bytes ≡ b ∷ rest → drop (place + 1) bytes ≡ rest
one_on bytes place b rest at = sym (drop-drop 1 place bytes) ∙ ap (drop 1) at

IsTokenOf-lexed_after : (bytes : List ℕ) (left place : ℕ) (rest : List ℕ) → drop place bytes ≡ rest → place + length rest ≡ length bytes →
    AllByRecursion (IsTokenOf bytes) (lexed_after left place rest).0
IsTokenOf-lexed_after bytes left place [] at len = tt
IsTokenOf-lexed_after bytes (suc left) place (b ∷ rest) at len =
    IsTokenOf-lexed_after bytes left (place + 1) rest (one_on bytes place b rest at) (omega arith)
IsTokenOf-lexed_after bytes zero place (b ∷ rest) at len =
    by (front_of b (b ∷ rest)) (IsFront-front_of b rest).suits
    (λ left. IsTokenOf-lexed_after bytes left (place + 1) rest (one_on bytes place b rest at) (omega arith))
  where
    by : (f : Front) → Suits (b ∷ rest) f → ((left : ℕ) → AllByRecursion (IsTokenOf bytes) (lexed_after left (place + 1) rest).0)
        → AllByRecursion (IsTokenOf bytes) (by_front f place (λ left. lexed_after left (place + 1) rest)).0
    by (Gap size) s more = more (size - 1)
    by (Piece kind size) s more =
        let P : List ℕ → Type 0 = λ l. IsText kind (take size l) in
        (record { within = omega (arith, s.1); text = subst P (sym at) s.2 }, more (size - 1))
    by (Fault kind) s more = tt

-- each token of a text lies in it
pub IsTokenOf-lexed : (bytes : List ℕ) → AllByRecursion (IsTokenOf bytes) (lexed bytes).0
unfolding lexed lexed_from
IsTokenOf-lexed bytes = IsTokenOf-lexed_after bytes 0 0 bytes refl (omega arith)

-- there are no more tokens than bytes
length-lexed_after : (left place : ℕ) (bytes : List ℕ) → length (lexed_after left place bytes).0 ≤ length bytes
length-lexed_after left place [] = omega arith
length-lexed_after (suc left) place (b ∷ bytes) = let h = length-lexed_after left (place + 1) bytes in omega arith
length-lexed_after zero place (b ∷ bytes) = by (front_of b (b ∷ bytes)) (λ left. length-lexed_after left (place + 1) bytes)
  where
    by : (f : Front) → ((left : ℕ) → length (lexed_after left (place + 1) bytes).0 ≤ length bytes) →
        length (by_front f place (λ left. lexed_after left (place + 1) bytes)).0 ≤ length (b ∷ bytes)
    by (Gap size) more = let h = more (size - 1) in omega arith
    by (Piece kind size) more = let h = more (size - 1) in omega arith
    by (Fault kind) more = omega arith

pub length-lexed : (bytes : List ℕ) → length (lexed bytes).0 ≤ length bytes
unfolding lexed lexed_from
length-lexed bytes = length-lexed_after 0 0 bytes

-- so each of its tokens does
pub all_at : {T : Type 0} (P : T → Type 0) (xs : List T) → AllByRecursion P xs → (i : ℕ) (d : T) → i < length xs → P (get_or xs i d)
all_at P [] all i d h = absurd (omega arith)
all_at P (x ∷ xs) all zero d h = all.0
all_at P (x ∷ xs) all (suc i) d h = all_at P xs all.1 i d (omega arith)

all_after : {T : Type 0} (P : T → Type 0) (n : ℕ) (xs : List T) → AllByRecursion P xs → AllByRecursion P (drop n xs)
all_after P zero xs all = all
all_after P (suc n) [] all = tt
all_after P (suc n) (x ∷ xs) all = all_after P n xs all.1

pub IsTokenOf-after : (bytes : List ℕ) (n : ℕ) → AllByRecursion (IsTokenOf bytes) (drop n (lexed bytes).0)
IsTokenOf-after bytes n = all_after (IsTokenOf bytes) n (lexed bytes).0 (IsTokenOf-lexed bytes)
