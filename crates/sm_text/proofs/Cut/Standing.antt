-- What stands at the front of a text, by the second reading of tokens.
use Rattle.sm_text.proofs.Imports.{◌≡◌, ℕ, ◌+◌, ◌^◌, ◌==◌, ◌<◌, ◌≤◌, Bool, true, false, true≢false, not, ◌&&◌, ◌||◌, Option, Some, is_some, List, [], ◌∷◌, ◌++◌, length, take, nat_lt, codes, refl, sym, ap, ap₂, subst, ◌∙◌, arith, eq-eqb, nat_tests, is_ascii_digit, list_all, prefix_len, bytes_eq, digits_value, Mark, Table, entry, Front, is_space, is_hash, is_in_line, is_word_start, is_word_byte, TokenKind, Word, Number, Sign, LexKind, BadByte, BadToken, WideNumber, begins, IsNumber, IsToken, Ends, IsStuck, is_half, HasNumber, IsFaultOf}
use Rattle.std.proofs.Common.{if◌then◌else◌, option_map, nat_le}
use Rattle.std.proofs.lemmas.Slice.Eq.{bytes_eq-Decides}
use Rattle.std.specs.List.{find}
use Rattle.sm_syntax.specs.text.Tokens.{signs, Gap, Piece, Fault, front_of, word_at, number_at, sign_at, mark_of_sign}
use Rattle.sm_text.proofs.RoundTrip.PieceTokens.{both-left, both-right, run_of, digits_are_word, no_digit, take_front}

-- a sign has one byte or two, and its first begins nothing else
abbrev pub opens_sign : ℕ → Bool
opens_sign b = not (is_space b || is_hash b || is_word_start b || is_ascii_digit b)

abbrev pub is_sign_text : List ℕ → Bool
is_sign_text [] = false
is_sign_text (b ∷ []) = opens_sign b
is_sign_text (b ∷ c ∷ []) = opens_sign b
is_sign_text (b ∷ c ∷ d ∷ more) = false

-- what stands in a table passes where all its texts do
entry_passes : (p : List ℕ → Bool) (table : Table) (text : List ℕ) → list_all (λ (e : List ℕ × Mark). p e.0) table ≡ true →
    is_some (entry table text) ≡ true → p text ≡ true
entry_passes p [] text all some = absurd (true≢false (sym some))
entry_passes p (e ∷ table) text all some =
    by (bytes_eq text e.0) (λ same. (bytes_eq-Decides text e.0).0 same)
    (entry_passes p table text (both-right (p e.0) (list_all (λ (e : List ℕ × Mark). p e.0) table) all)) some
  where
    found : Bool → Option (List ℕ × Mark)
    found t = if t then Some e else find (λ (e : List ℕ × Mark). bytes_eq text e.0) table

    by : (t : Bool) → (t ≡ true → text ≡ e.0) → (is_some (entry table text) ≡ true → p text ≡ true) →
        is_some (option_map (λ (e : List ℕ × Mark). e.1) (found t)) ≡ true → p text ≡ true
    by true same other some = ap p (same refl) ∙ both-left (p e.0) (list_all (λ (e : List ℕ × Mark). p e.0) table) all
    by false same other some = other some

pub sign_text : (text : List ℕ) → is_some (mark_of_sign text) ≡ true → is_sign_text text ≡ true
unfolding mark_of_sign signs
sign_text text some = entry_passes is_sign_text signs text refl some

-- a run of such bytes at the front, and what stands after it
pub record Run (p : ℕ → Bool) (bytes : List ℕ) : Type 0 where
  pub text : List ℕ
  pub after : List ℕ
  pub same : bytes ≡ text ++ after
  pub all : list_all p text ≡ true
  pub ends : begins p after ≡ false

run : (p : ℕ → Bool) (bytes : List ℕ) → Run p bytes
run p [] = record { text = []; after = []; same = refl; all = refl; ends = refl }
run p (b ∷ bytes) = by (p b) refl (run p bytes)
  where
    by : (t : Bool) → p b ≡ t → Run p bytes → Run p (b ∷ bytes)
    by true h r = record {
      text = b ∷ r.text;
      after = r.after;
      same = ap (λ l. b ∷ l) r.same;
      all = ap (λ t. t && list_all p r.text) h
          ∙ r.all;
      ends = r.ends;
    }
    by false h r = record { text = []; after = b ∷ bytes; same = refl; all = refl; ends = h }

run_size : (p : ℕ → Bool) (bytes : List ℕ) (r : Run p bytes) → prefix_len p bytes ≡ length r.text
run_size p bytes r = ap (prefix_len p) r.same ∙ run_of p r.text r.after r.all r.ends

-- a run that begins
begun : (p : ℕ → Bool) (b : ℕ) (rest : List ℕ) (r : Run p (b ∷ rest)) → p b ≡ true → (u : List ℕ) × (r.text ≡ b ∷ u)
begun p b rest r h = by r.text r.after r.same r.ends
  where
    by : (text after : List ℕ) → b ∷ rest ≡ text ++ after → begins p after ≡ false → (u : List ℕ) × (text ≡ b ∷ u)
    by [] after same ends = absurd (true≢false (sym h ∙ ap (begins p) same ∙ ends))
    by (c ∷ u) after same ends = (u, ap (λ l. head l ∷ u) (sym same))
      where
        head : List ℕ → ℕ
        head [] = c
        head (d ∷ l) = d

-- what stands at the front of bytes
pub data Stands (bytes : List ℕ) : Front → Type 0 where
  a_space : (b : ℕ) (rest : List ℕ) → bytes ≡ b ∷ rest → is_space b ≡ true → Stands bytes (Gap 1)
  a_comment : (body rest : List ℕ) → bytes ≡ 35 ∷ body ++ rest → list_all is_in_line body ≡ true → begins is_in_line rest ≡ false →
      Stands bytes (Gap (length (35 ∷ body)))
  a_token : (kind : TokenKind) (text after : List ℕ) → bytes ≡ text ++ after → IsToken kind text → Ends kind text after →
      Stands bytes (Piece kind (length text))
  a_fault : (kind : LexKind) → IsStuck bytes → IsFaultOf kind bytes → Stands bytes (Fault kind)

stands_if : (bytes : List ℕ) (t : Bool) (f g : Front) → (t ≡ true → Stands bytes f) → (t ≡ false → Stands bytes g) →
    Stands bytes (if t then f else g)
stands_if bytes true f g at_true at_false = at_true refl
stands_if bytes false f g at_true at_false = at_false refl

hash_is : (b : ℕ) → is_hash b ≡ true → 35 ≡ b
hash_is b h = grind (arith, nat_tests)

hash_in_line : (b : ℕ) → is_hash b ≡ true → is_in_line b ≡ true
hash_in_line b h = grind (arith, nat_tests)

one_more : (u : List ℕ) → length (35 ∷ u) ≡ 1 + length u
one_more u = omega arith

stands_comment : (b : ℕ) (rest : List ℕ) → is_hash b ≡ true → Stands (b ∷ rest) (Gap (prefix_len is_in_line (b ∷ rest)))
stands_comment b rest h =
    let r = run is_in_line rest in
    let P : ℕ → Type 0 = λ n. Stands (b ∷ rest) (Gap n) in
    let size : length (35 ∷ r.text) ≡ prefix_len is_in_line (b ∷ rest) =
    one_more r.text ∙ ap (λ n. 1 + n) (sym (run_size is_in_line rest r))
    ∙ ap (λ t. if t then 1 + prefix_len is_in_line rest else 0) (sym (hash_in_line b h)) in
    subst P size (a_comment r.text r.after (ap (λ l. b ∷ l) r.same ∙ ap (λ c. c ∷ r.text ++ r.after) (sym (hash_is b h))) r.all r.ends)

-- the first byte of a token tells its kind
pub first_of_text : (p : ℕ → Bool) (b : ℕ) (rest text after : List ℕ) → b ∷ rest ≡ text ++ after → begins p text ≡ true → p b ≡ true
first_of_text p b rest [] after same h = absurd (true≢false (sym h))
first_of_text p b rest (c ∷ u) after same h = ap (begins p) same ∙ h

pub number_begins : (text : List ℕ) → IsNumber text → begins is_ascii_digit text ≡ true
number_begins [] n = absurd (omega (arith, n.some))
number_begins (b ∷ u) n = both-left (is_ascii_digit b) (list_all is_ascii_digit u) n.digits

sign_begins : (text : List ℕ) → is_some (mark_of_sign text) ≡ true → begins opens_sign text ≡ true
sign_begins text some = by text (sign_text text some)
  where
    by : (text : List ℕ) → is_sign_text text ≡ true → begins opens_sign text ≡ true
    by [] h = h
    by (b ∷ []) h = h
    by (b ∷ c ∷ []) h = h
    by (b ∷ c ∷ d ∷ more) h = absurd (true≢false (sym h))

letter_no_space : (b : ℕ) → is_word_byte b ≡ true → is_space b ≡ false
letter_no_space b h = grind (arith, nat_tests)

letter_no_hash : (b : ℕ) → is_word_byte b ≡ true → is_hash b ≡ false
letter_no_hash b h = grind (arith, nat_tests)

letter_no_sign : (b : ℕ) → is_word_byte b ≡ true → opens_sign b ≡ false
letter_no_sign b h = grind (arith, nat_tests)

start_in_word : (b : ℕ) → is_word_start b ≡ true → is_word_byte b ≡ true
start_in_word b h = grind (arith, nat_tests)

pub digit_in_word : (b : ℕ) → is_ascii_digit b ≡ true → is_word_byte b ≡ true
digit_in_word b h = grind (arith, nat_tests)

start_no_digit : (b : ℕ) → is_word_start b ≡ true → is_ascii_digit b ≡ false
start_no_digit b h = grind (arith, nat_tests)

pub or-left : (a b : Bool) → a ≡ true → (a || b) ≡ true
or-left true b h = refl
or-left false b h = absurd (true≢false (sym h))

within : (n k : ℕ) → nat_le n k ≡ true → n ≤ k
within n k h = grind (arith, nat_tests)

over : (n k : ℕ) → nat_le n k ≡ false → k < n
over n k h = grind (arith, nat_tests)

less : (n k : ℕ) → nat_lt n k ≡ true → n < k
less n k h = grind (arith, nat_tests)

no_less : (n k : ℕ) → nat_lt n k ≡ false → k ≤ n
no_less n k h = grind (arith, nat_tests)

-- a text that begins like a word has no number at its front
no_number : (b : ℕ) (rest : List ℕ) → is_word_start b ≡ true → HasNumber (b ∷ rest) → ⊥
no_number b rest h n = true≢false (sym (first_of_text is_ascii_digit b rest n.text n.after n.same (number_begins n.text n.number))
    ∙ start_no_digit b h)

-- a word that is too long
stuck_word : (b : ℕ) (rest : List ℕ) → is_word_start b ≡ true → 64 < prefix_len is_word_byte (b ∷ rest) → IsStuck (b ∷ rest)
stuck_word b rest h long = record {
  some = omega arith;
  space = letter_no_space b (start_in_word b h);
  hash = letter_no_hash b (start_in_word b h);
  token = none;
}
  where
    none : (kind : TokenKind) (text after : List ℕ) → b ∷ rest ≡ text ++ after → IsToken kind text → Ends kind text after → ⊥
    none Word text after same is ends =
        let size = ap (prefix_len is_word_byte) same ∙ run_of is_word_byte text after is.0.bytes ends in omega (arith, size, long, is.1)
    none Number text after same is ends =
        no_number b rest h (record { text = text; after = after; same = same; number = is.0; ends = ends })
    none Sign text after same is ends =
        true≢false (sym (first_of_text opens_sign b rest text after same (sign_begins text is)) ∙ letter_no_sign b (start_in_word b h))

stands_word : (b : ℕ) (rest : List ℕ) → is_word_start b ≡ true → Stands (b ∷ rest) (word_at (b ∷ rest))
unfolding word_at
stands_word b rest h =
    let r = run is_word_byte (b ∷ rest) in
    let size = prefix_len is_word_byte (b ∷ rest) in
    let is : size ≡ length r.text = run_size is_word_byte (b ∷ rest) r in
    let front = begun is_word_byte b rest r (start_in_word b h) in
    let P : ℕ → Type 0 = λ n. Stands (b ∷ rest) (Piece Word n) in
    stands_if (b ∷ rest) (nat_le size 64) (Piece Word size) (Fault BadToken)
    (λ short. subst P (sym is) (a_token Word r.text r.after r.same
    (record { start = ap (begins is_word_start) front.1 ∙ h; bytes = r.all }, let s = within size 64 short in omega (arith, is, s)) r.ends))
    (λ long. a_fault BadToken (stuck_word b rest h (over size 64 long)) (
      or-left (is_word_byte b) (is_half b) (start_in_word b h),
      no_number b rest h,
    ))

-- a run of word bytes goes on after others
word_run : (u v : List ℕ) → list_all is_word_byte u ≡ true → prefix_len is_word_byte (u ++ v) ≡ length u + prefix_len is_word_byte v
word_run [] v all = omega arith
word_run (b ∷ u) v all =
    let more = word_run u v (both-right (is_word_byte b) (list_all is_word_byte u) all) in
    let here : prefix_len is_word_byte (b ∷ (u ++ v)) ≡ 1 + prefix_len is_word_byte (u ++ v) =
    ap (λ t. if t then 1 + prefix_len is_word_byte (u ++ v) else 0) (both-left (is_word_byte b) (list_all is_word_byte u) all) in
    omega (arith, more, here)

no_run : (p : ℕ → Bool) (v : List ℕ) → prefix_len p v ≡ 0 → begins p v ≡ false
no_run p [] none = refl
no_run p (c ∷ v) none = by (p c) none
  where
    by : (t : Bool) → (if t then 1 + prefix_len p v else 0) ≡ 0 → t ≡ false
    by true none = absurd (omega (arith, none))
    by false none = refl

-- where the digits end, no letter follows
has_number : (b : ℕ) (rest : List ℕ) (r : Run is_ascii_digit (b ∷ rest)) →
    prefix_len is_word_byte (b ∷ rest) ≡ prefix_len is_ascii_digit (b ∷ rest) → begins is_word_byte r.after ≡ false
has_number b rest r same =
    let size = run_size is_ascii_digit (b ∷ rest) r in
    let wide = ap (prefix_len is_word_byte) r.same ∙ word_run r.text r.after (digits_are_word r.text r.all) in
    no_run is_word_byte r.after (omega (arith, size, wide, same))

stuck_number : (b : ℕ) (rest : List ℕ) → is_ascii_digit b ≡ true →
    ((text after : List ℕ) → b ∷ rest ≡ text ++ after → IsToken Number text → Ends Number text after → ⊥) → IsStuck (b ∷ rest)
stuck_number b rest h not_number = record {
  some = omega arith;
  space = letter_no_space b (digit_in_word b h);
  hash = letter_no_hash b (digit_in_word b h);
  token = none;
}
  where
    none : (kind : TokenKind) (text after : List ℕ) → b ∷ rest ≡ text ++ after → IsToken kind text → Ends kind text after → ⊥
    none Word text after same is ends =
        true≢false (sym h ∙ start_no_digit b (first_of_text is_word_start b rest text after same is.0.start))
    none Number text after same is ends = not_number text after same is ends
    none Sign text after same is ends =
        true≢false (sym (first_of_text opens_sign b rest text after same (sign_begins text is)) ∙ letter_no_sign b (digit_in_word b h))

same_of : (a b : ℕ) → (a == b) ≡ true → a ≡ b
same_of a b h = grind (arith, nat_tests)

-- the digits of a number that stands at the front
taken : (bytes text after : List ℕ) (size : ℕ) → bytes ≡ text ++ after → size ≡ length text → take size bytes ≡ text
taken bytes text after size same is = ap₂ take is same ∙ take_front text after

-- a number at the front with no byte of a word after it: both runs are its size
number_sizes : (bytes : List ℕ) (n : HasNumber bytes) →
    (prefix_len is_ascii_digit bytes ≡ length n.text) × (prefix_len is_word_byte bytes ≡ length n.text)
number_sizes bytes n = (
  ap (prefix_len is_ascii_digit) n.same ∙ run_of is_ascii_digit n.text n.after n.number.digits (no_digit n.after n.ends),
  ap (prefix_len is_word_byte) n.same ∙ run_of is_word_byte n.text n.after (digits_are_word n.text n.number.digits) n.ends,
)

text_some : (u : List ℕ) (b : ℕ) (v : List ℕ) → u ≡ b ∷ v → 0 < length u
text_some u b v is = subst (λ l. 0 < length l) (sym is) (omega arith)

stands_number : (b : ℕ) (rest : List ℕ) → is_ascii_digit b ≡ true → Stands (b ∷ rest) (number_at (b ∷ rest))
unfolding number_at
stands_number b rest h =
    let all = b ∷ rest in
    let r = run is_ascii_digit all in
    let size = prefix_len is_ascii_digit all in
    let wide = prefix_len is_word_byte all in
    let is : size ≡ length r.text = run_size is_ascii_digit all r in
    let front = begun is_ascii_digit b rest r h in
    let number : IsNumber r.text = record { some = text_some r.text b front.0 front.1; digits = r.all } in
    let value = digits_value 10 (take size all) in
    let own : value ≡ digits_value 10 r.text = ap (digits_value 10) (taken all r.text r.after size r.same is) in
    let P : ℕ → Type 0 = λ n. Stands all (Piece Number n) in
    let differ : (wide == size) ≡ false → HasNumber all → ⊥ = λ e n.
    true≢false (sym (eq-eqb wide size ((number_sizes all n).1 ∙ sym (number_sizes all n).0)) ∙ e) in
    stands_if all (wide == size) (if nat_lt value (2 ^ 127) then Piece Number size else Fault WideNumber) (Fault BadToken)
    (λ e. let ends = has_number b rest r (same_of wide size e) in
    stands_if all (nat_lt value (2 ^ 127)) (Piece Number size) (Fault WideNumber)
    (λ small. subst P (sym is)
    (a_token Number r.text r.after r.same (number, subst (λ n. n < 2 ^ 127) own (less value (2 ^ 127) small)) ends))
    (λ large. a_fault WideNumber
    (stuck_number b rest h (λ text after same it stops.
    let n : HasNumber all = record { text = text; after = after; same = same; number = it.0; ends = stops } in
    let mine : value ≡ digits_value 10 text = ap (digits_value 10) (taken all text after size same (number_sizes all n).0) in
    omega (arith, mine, it.1, no_less value (2 ^ 127) large)))
    (record { text = r.text; after = r.after; same = r.same; number = number; ends = ends })))
    (λ e. a_fault BadToken
    (stuck_number b rest h (λ text after same it stops.
    differ e (record { text = text; after = after; same = same; number = it.0; ends = stops })))
    (or-left (is_word_byte b) (is_half b) (digit_in_word b h), differ e))

-- what is no text of a sign is no sign
not_sign : (text : List ℕ) → is_sign_text text ≡ false → is_some (mark_of_sign text) ≡ false
not_sign text fails = by (is_some (mark_of_sign text)) (sign_text text)
  where
    by : (t : Bool) → (t ≡ true → is_sign_text text ≡ true) → t ≡ false
    by true h = absurd (true≢false (sym (h refl) ∙ fails))
    by false h = refl

-- a sign of two bytes is not part of a longer one
longest_two : (b c : ℕ) (v : List ℕ) → Ends Sign (b ∷ c ∷ []) v
longest_two b c v [] rest same some = absurd (omega (arith, some))
longest_two b c v (d ∷ more) rest same some = not_sign (b ∷ c ∷ d ∷ more) refl

-- a sign of one byte is not, where that and the next are none
longest_one : (b : ℕ) (v : List ℕ) → ((c : ℕ) (w : List ℕ) → v ≡ c ∷ w → is_some (mark_of_sign (b ∷ c ∷ [])) ≡ false) → Ends Sign (b ∷ []) v
longest_one b v fails [] rest same some = absurd (omega (arith, some))
longest_one b v fails (c ∷ []) rest same some = fails c rest same
longest_one b v fails (c ∷ d ∷ more) rest same some = not_sign (b ∷ c ∷ d ∷ more) refl

-- whether the two bytes at the front are a sign
abbrev pub is_double : List ℕ → Bool
is_double bytes = nat_le 2 (length bytes) && is_some (mark_of_sign (take 2 bytes))

no_double : (b c : ℕ) (w : List ℕ) → is_double (b ∷ c ∷ w) ≡ false → is_some (mark_of_sign (b ∷ c ∷ [])) ≡ false
no_double b c w fails = by (nat_le 2 (length (b ∷ c ∷ w))) long fails
  where
    long : nat_le 2 (length (b ∷ c ∷ w)) ≡ true
    long = grind (arith, nat_tests)

    by : (t : Bool) → t ≡ true → (t && is_some (mark_of_sign (b ∷ c ∷ []))) ≡ false → is_some (mark_of_sign (b ∷ c ∷ [])) ≡ false
    by true l h = h
    by false l h = absurd (true≢false (sym l))

no_next : (b : ℕ) (rest : List ℕ) → is_double (b ∷ rest) ≡ false → (c : ℕ) (w : List ℕ) → rest ≡ c ∷ w →
    is_some (mark_of_sign (b ∷ c ∷ [])) ≡ false
no_next b rest fails c w is = no_double b c w (subst (λ l. is_double (b ∷ l) ≡ false) is fails)

two_stand : (b : ℕ) (rest : List ℕ) → is_double (b ∷ rest) ≡ true → Stands (b ∷ rest) (Piece Sign 2)
two_stand b [] h = absurd (true≢false (sym (both-left (nat_le 2 1) (is_some (mark_of_sign (b ∷ []))) h)))
two_stand b (c ∷ v) h = a_token Sign (b ∷ c ∷ []) v refl
    (both-right (nat_le 2 (length (b ∷ c ∷ v))) (is_some (mark_of_sign (b ∷ c ∷ []))) h) (longest_two b c v)

-- neither the first byte nor the first two are a sign
stuck_sign : (b : ℕ) (rest : List ℕ) → is_space b ≡ false → is_hash b ≡ false → is_word_start b ≡ false → is_ascii_digit b ≡ false →
    is_double (b ∷ rest) ≡ false → is_some (mark_of_sign (b ∷ [])) ≡ false → IsStuck (b ∷ rest)
stuck_sign b rest no_space no_hash no_word no_digit no_two no_one =
    record { some = omega arith; space = no_space; hash = no_hash; token = none }
  where
    no_sign : (text after : List ℕ) → b ∷ rest ≡ text ++ after → is_sign_text text ≡ true → is_some (mark_of_sign text) ≡ true → ⊥
    no_sign [] after same is some = true≢false (sym is)
    no_sign (c ∷ []) after same is some = true≢false (sym (ap (λ l. is_some (mark_of_sign (take 1 l))) same ∙ some) ∙ no_one)
    no_sign (c ∷ d ∷ []) after same is some = true≢false (sym some ∙ no_double c d after (subst (λ l. is_double l ≡ false) same no_two))
    no_sign (c ∷ d ∷ e ∷ more) after same is some = true≢false (sym is)

    none : (kind : TokenKind) (text after : List ℕ) → b ∷ rest ≡ text ++ after → IsToken kind text → Ends kind text after → ⊥
    none Word text after same is ends = true≢false (sym (first_of_text is_word_start b rest text after same is.0.start) ∙ no_word)
    none Number text after same is ends =
        true≢false (sym (first_of_text is_ascii_digit b rest text after same (number_begins text is.0)) ∙ no_digit)
    none Sign text after same is ends = no_sign text after same (sign_text text is) is

neither : (b : ℕ) → is_word_start b ≡ false → is_ascii_digit b ≡ false → is_word_byte b ≡ false
neither b no_word no_digit = grind (arith, nat_tests)

halves : (w s t u : Bool) → w ≡ false → (s && true || t && true) ≡ u → (w || (s || t)) ≡ u
halves false true t u e h = h
halves false false true u e h = h
halves false false false u e h = h
halves true s t u e h = absurd (true≢false e)

stands_sign : (b : ℕ) (rest : List ℕ) → is_space b ≡ false → is_hash b ≡ false → is_word_start b ≡ false → is_ascii_digit b ≡ false →
    Stands (b ∷ rest) (sign_at (b ∷ rest))
unfolding sign_at
stands_sign b rest no_space no_hash no_word no_digit =
    let all = b ∷ rest in
    let single = is_some (mark_of_sign (b ∷ [])) in
    let half = bytes_eq (b ∷ []) (codes "&") || bytes_eq (b ∷ []) (codes "|") in
    let unknown = if half then Fault BadToken else Fault BadByte in
    let number : HasNumber all → ⊥ =
    λ n. true≢false (sym (first_of_text is_ascii_digit b rest n.text n.after n.same (number_begins n.text n.number)) ∙ no_digit) in
    let begun : (u : Bool) → half ≡ u → (is_word_byte b || is_half b) ≡ u =
    λ u h. halves (is_word_byte b) (b == 38) (b == 124) u (neither b no_word no_digit) h in
    stands_if all (is_double all) (Piece Sign 2) (if single then Piece Sign 1 else unknown) (two_stand b rest) (λ no_two.
    stands_if all single (Piece Sign 1) unknown
    (λ is. a_token Sign (b ∷ []) rest refl is (longest_one b rest (no_next b rest no_two))) (λ no_one.
    let stuck = stuck_sign b rest no_space no_hash no_word no_digit no_two no_one in
    stands_if all half (Fault BadToken) (Fault BadByte) (λ h. a_fault BadToken stuck (begun true h, number))
    (λ h. a_fault BadByte stuck (begun false h))))

pub stands : (b : ℕ) (rest : List ℕ) → Stands (b ∷ rest) (front_of b (b ∷ rest))
unfolding front_of
stands b rest =
    let all = b ∷ rest in
    let number = if is_ascii_digit b then number_at all else sign_at all in
    let word = if is_word_start b then word_at all else number in
    let note = if is_hash b then Gap (prefix_len is_in_line all) else word in
    stands_if all (is_space b) (Gap 1) note (a_space b rest refl) (λ no_space.
    stands_if all (is_hash b) (Gap (prefix_len is_in_line all)) word (stands_comment b rest) (λ no_hash.
    stands_if all (is_word_start b) (word_at all) number (stands_word b rest) (λ no_word.
    stands_if all (is_ascii_digit b) (number_at all) (sign_at all) (stands_number b rest) (stands_sign b rest no_space no_hash no_word))))
