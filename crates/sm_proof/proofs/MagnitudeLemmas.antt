-- What the loop over the digits of a word finds.
use Rattle.sm_proof.proofs.Imports.{◌≡◌, ℕ, zero, suc, ◌+◌, ◌*◌, ◌-◌, ◌<◌, ◌≤◌, ◌^◌, true, false, nat_lt, pos, negsuc, ◌-ℤ◌, to_z, of_z, Option, Some, None, List, ◌∷◌, length, take, drop, get_or, refl, sym, ap, subst, ◌∙◌, arith, Decides-ltb, nat_tests, decimal_is_IsNumeral_wide, decimal_digit, ints, to_z-of_z, digit_at, digit_from_value, digits_value-take-le, is_ascii_digit, digit_value, decimal, signed_decimal, IsInRange, w128, AllDigits, digits_value, fits, number_in, literal_in}
use Rattle.std.proofs.Common.{ℤ}
use Rattle.std.proofs.lemmas.Int.Digits.{digits_value_more, digits_more}
use Rattle.sm_proof.proofs.DecimalLemmas.{first_decimal_wide, decimal_of_value}
use Rattle.sm_proof.proofs.NumberLemmas.{number_back, number_spelled, literal_back, literal_spelled}

-- a word spells no number where it is no text
none_where : (most : ℕ) (word : List ℕ) → ((n : ℕ) → n ≤ most → word ≡ decimal n → ⊥) → None ≡ number_in most word
none_where most word refused = by (number_in most word) refl
  where
    by : (o : Option ℕ) → number_in most word ≡ o → None ≡ o
    by None e = refl
    by (Some n) e = let b = number_back most n word e in absurd (refused n b.0 b.1)

pub empty_is_none : (word : List ℕ) → length word ≡ 0 → None ≡ number_in (2 ^ 127) word
empty_is_none word none = none_where (2 ^ 127) word
    (λ n low e. omega (arith, (decimal_is_IsNumeral_wide n (omega arith)).0.0, ap length e))

pub leading_is_none : (word : List ℕ) → get_or word 0 0 ≡ 48 → 1 < length word → None ≡ number_in (2 ^ 127) word
leading_is_none word lead more = none_where (2 ^ 127) word (λ n low e. by n low e)
  where
    by : (n : ℕ) → n ≤ 2 ^ 127 → word ≡ decimal n → ⊥
    by zero low e = omega (arith, ap length (decimal_digit 0 (omega arith)), ap length e)
    by (suc n) low e = omega (arith, first_decimal_wide (suc n) (omega arith) (omega arith), ap (λ (w : List ℕ). get_or w 0 0) e)

pub other_is_none : (word : List ℕ) (i : ℕ) → i < length word → is_ascii_digit (get_or word i 0) ≡ false → None ≡ number_in (2 ^ 127) word
other_is_none word i there other = none_where (2 ^ 127) word (λ n low e. by n low e)
  where
    refused : (c : ℕ) → is_ascii_digit c ≡ false → IsInRange 48 57 c → ⊥
    refused c f r = grind (arith, nat_tests)

    by : (n : ℕ) → n ≤ 2 ^ 127 → word ≡ decimal n → ⊥
    by n low e =
        let ds = subst (AllDigits 10) (sym e) (decimal_is_IsNumeral_wide n (omega arith)).0.1 in
        refused (get_or word i 0) other (digit_at word i ds there)

pub wide_is_none : (word : List ℕ) (i w : ℕ) → w ≡ digits_value 10 (take i word) → 2 ^ 127 < w → None ≡ number_in (2 ^ 127) word
wide_is_none word i w so_far wide = none_where (2 ^ 127) word (λ n low e. by n low e)
  where
    by : (n : ℕ) → n ≤ 2 ^ 127 → word ≡ decimal n → ⊥
    by n low e =
        let value : digits_value 10 word ≡ n = ap (digits_value 10) e ∙ (decimal_is_IsNumeral_wide n (omega arith)).1 in
        omega (arith, digits_value-take-le 10 word i (omega arith), value)

-- one more digit
digit_of : (c : ℕ) → is_ascii_digit c ≡ true → (digit_value c < 10) × (digit_value c ≡ c - 48)
digit_of c h = (grind (arith, nat_tests), grind (arith, nat_tests))

pub next_value : (word : List ℕ) (i v u : ℕ) → i < length word → is_ascii_digit (get_or word i 0) ≡ true → v ≡ digits_value 10 (take i word)
    → u ≡ get_or word i 0 - 48 → 10 * v + u ≡ digits_value 10 (take (i + 1) word)
next_value word i v u there digit so_far unit =
    let d = (digit_of (get_or word i 0) digit).1 in
    let e = digits_value_more 10 word i there in
    omega (arith, d, e, so_far, unit)

pub next_digits : (word : List ℕ) (i : ℕ) → i < length word → is_ascii_digit (get_or word i 0) ≡ true → AllDigits 10 (take i word)
    → AllDigits 10 (take (i + 1) word)
next_digits word i there digit so_far = digits_more 10 word i there so_far (digit_of (get_or word i 0) digit).0

-- all digits were seen
pub value_spelled : (word : List ℕ) (v : ℕ) → AllDigits 10 word → v ≡ digits_value 10 word → v ≤ 2 ^ 127 → 0 < length word
    → (get_or word 0 0 ≡ 48 → length word ≡ 1) → Some v ≡ number_in (2 ^ 127) word
value_spelled word v digits value low some lead =
    let text : decimal v ≡ word = ap decimal value ∙ decimal_of_value word digits some lead (omega (arith, value)) in
    sym (number_spelled (2 ^ 127) v low (omega arith)) ∙ ap (number_in (2 ^ 127)) text

-- a smaller limit
pub narrow_some : (most n : ℕ) (word : List ℕ) → Some n ≡ number_in (2 ^ 127) word → n ≤ most → Some n ≡ number_in most word
narrow_some most n word is low =
    let b = number_back (2 ^ 127) n word (sym is) in
    sym (number_spelled most n low (omega (arith, b.0))) ∙ ap (number_in most) (sym b.1)

pub narrow_wide : (most n : ℕ) (word : List ℕ) → Some n ≡ number_in (2 ^ 127) word → most < n → None ≡ number_in most word
narrow_wide most n word is wide = none_where most word (λ m low e. by m low e)
  where
    by : (m : ℕ) → m ≤ most → word ≡ decimal m → ⊥
    by m low e =
        let b = number_back (2 ^ 127) n word (sym is) in
        let same : m ≡ n = sym (decimal_is_IsNumeral_wide m (omega (arith, b.0))).1 ∙ ap (digits_value 10) (sym e ∙ b.1)
        ∙ (decimal_is_IsNumeral_wide n (omega (arith, b.0))).1 in
        omega (arith, same)

pub narrow_none : (most : ℕ) (word : List ℕ) → None ≡ number_in (2 ^ 127) word → most < 2 ^ 64 → None ≡ number_in most word
narrow_none most word is small = none_where most word (λ m low e. by m low e)
  where
    by : (m : ℕ) → m ≤ most → word ≡ decimal m → ⊥
    by m low e =
        let s : number_in (2 ^ 127) word ≡ Some m = ap (number_in (2 ^ 127)) e ∙ number_spelled (2 ^ 127) m (omega arith) (omega arith) in
        cc

-- literals: a word is none where it is the text of none
pub none_literal : (word : List ℕ) → ((z : ℤ) → fits z ≡ true → word ≡ signed_decimal z → ⊥) → None ≡ literal_in word
none_literal word refused = by (literal_in word) refl
  where
    by : (o : Option ℤ) → literal_in word ≡ o → None ≡ o
    by None e = refl
    by (Some z) e = let b = literal_back z word e in absurd (refused z b.0 b.1)

small : (n : ℕ) → nat_lt n (2 ^ 127) ≡ true → n < 2 ^ 127
small n h = (Decides-ltb n (2 ^ 127)).0 h

-- without a sign
pub positive_some : (word : List ℕ) (n : ℕ) → Some n ≡ number_in (2 ^ 127) word → n < 2 ^ 127 → Some (pos n) ≡ literal_in word
positive_some word n is low =
    let b = number_back (2 ^ 127) n word (sym is) in
    sym (literal_spelled (pos n) ((Decides-ltb n (2 ^ 127)).1 low)) ∙ ap literal_in (sym b.1)

-- the text of a literal below 0 has a sign
sign_of : (n : ℕ) → get_or (signed_decimal (negsuc n)) 0 0 ≡ 45
sign_of n = refl

pub positive_none : (word : List ℕ) → (get_or word 0 0 ≡ 45 → ⊥) → ((n : ℕ) → n < 2 ^ 127 → Some n ≡ number_in (2 ^ 127) word → ⊥)
    → None ≡ literal_in word
positive_none word plain refused = none_literal word (λ z f e. by z f e)
  where
    by : (z : ℤ) → fits z ≡ true → word ≡ signed_decimal z → ⊥
    by (pos n) f e =
        let low = small n f in
        refused n low (sym (ap (number_in (2 ^ 127)) e ∙ number_spelled (2 ^ 127) n (omega arith) (omega arith)))
    by (negsuc n) f e = plain (ap (λ (w : List ℕ). get_or w 0 0) e)

-- with one
pub negative_some : (digits : List ℕ) (n : ℕ) → Some (suc n) ≡ number_in (2 ^ 127) digits → Some (negsuc n) ≡ literal_in (45 ∷ digits)
negative_some digits n is =
    let b = number_back (2 ^ 127) (suc n) digits (sym is) in
    sym (literal_spelled (negsuc n) ((Decides-ltb n (2 ^ 127)).1 (omega (arith, b.0)))) ∙ ap (λ (w : List ℕ). literal_in (45 ∷ w)) (sym b.1)

pub negative_none : (digits : List ℕ) → ((n : ℕ) → Some (suc n) ≡ number_in (2 ^ 127) digits → ⊥) → None ≡ literal_in (45 ∷ digits)
negative_none digits refused = none_literal (45 ∷ digits) (λ z f e. by z f e)
  where
    by : (z : ℤ) → fits z ≡ true → 45 ∷ digits ≡ signed_decimal z → ⊥
    by (pos n) f e =
        let k = subst (AllDigits 10) (sym e) (decimal_is_IsNumeral_wide n (omega (arith, small n f))).0.1 in
        omega (arith, digit_from_value 45 k.0)
    by (negsuc n) f e =
        let low = small n f in
        let tail : digits ≡ decimal (suc n) = ap (drop 1) e in
        refused n (sym (ap (number_in (2 ^ 127)) tail ∙ number_spelled (2 ^ 127) (suc n) (omega arith) (omega arith)))

-- the numbers of 128 bits as the program has them
pub to_z_small : (n : ℕ) → n < 2 ^ 127 → to_z w128 n ≡ pos n
to_z_small n low = grind (arith, ints)

pub below_zero : (n : ℕ) → n < 2 ^ 127 → to_z w128 (of_z w128 (negsuc 0 -ℤ to_z w128 n)) ≡ negsuc n
below_zero n low =
    let same : negsuc 0 -ℤ to_z w128 n ≡ negsuc n = ap (λ (y : ℤ). negsuc 0 -ℤ y) (to_z_small n low) ∙ omega (arith, ints) in
    ap (λ (y : ℤ). to_z w128 (of_z w128 y)) same ∙ to_z-of_z w128 (negsuc n) (record { sfits = low })
