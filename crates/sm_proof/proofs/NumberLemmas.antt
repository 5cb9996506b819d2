-- Numbers and the words that spell them.
use Rattle.sm_proof.proofs.Imports.{◌≡◌, ℕ, suc, ◌<◌, ◌≤◌, ◌^◌, ◌&&◌, pos, negsuc, neg_ℤ, Bool, true, false, cond, if◌then◌else◌, Option, Some, None, List, [], ◌∷◌, map, nat_le, refl, sym, ap, subst, ◌∙◌, arith, Decides-ltb, decimal_is_IsNumeral_wide, ints, bytes_eq-Decides, decimal, signed_decimal, bytes_eq, digits_value, without_leading_sign, signed_digits_value, fits, followed, IsLiteral, AreNumbers, any, le_from_test, le_true}
use Rattle.std.proofs.Common.{ℤ}
use Rattle.sm_proof.specs.Numbers.{number_in, literal_in, numbers_in}
use Rattle.sm_lemmas.proofs.Numbers.{no_minus, unsigned}

-- the choice of two tests
both_true : {T : Type 0} (a b : Bool) (x y : T) → (if a && b then Some x else None) ≡ Some y → (a ≡ true) × (b ≡ true) × (x ≡ y)
both_true true true x y e = (refl, refl, cc)
both_true true false x y e = cc
both_true false b x y e = cc

-- a word that spells a number is its text
pub number_back : (most n : ℕ) (word : List ℕ) → number_in most word ≡ Some n → (n ≤ most) × (word ≡ decimal n)
unfolding number_in
number_back most n word is =
    let v = digits_value 10 word in
    let t = both_true (nat_le v most) (bytes_eq (decimal v) word) v n is in
    let low = le_from_test v most t.0 in
    let same = (bytes_eq-Decides (decimal v) word).0 t.1 in
    (subst (λ (k : ℕ). k ≤ most) t.2 low, sym same ∙ ap decimal t.2)

-- the text of a number spells it
pub number_spelled : (most n : ℕ) → n ≤ most → n < 10 ^ 64 → number_in most (decimal n) ≡ Some n
unfolding number_in
number_spelled most n low small =
    let value = (decimal_is_IsNumeral_wide n small).1 in
    ap (λ (v : ℕ). if nat_le v most && bytes_eq (decimal v) (decimal n) then Some v else None) value
    ∙ ap (λ (b : Bool). if b && bytes_eq (decimal n) (decimal n) then Some n else None) (le_true n most low)
    ∙ ap (λ (b : Bool). if b then Some n else None) ((bytes_eq-Decides (decimal n) (decimal n)).1 refl)

-- words that spell numbers are their texts
more_back : (word : List ℕ) (words : List (List ℕ)) (o : Option ℕ) (p : Option (List ℕ)) (ns : List ℕ)
    → ((n : ℕ) → o ≡ Some n → (n ≤ any) × (word ≡ decimal n)) → ((ms : List ℕ) → p ≡ Some ms → AreNumbers ms × (words ≡ map decimal ms))
    → followed o (λ (n : ℕ). followed p (λ (ms : List ℕ). Some (n ∷ ms))) ≡ Some ns → AreNumbers ns × (word ∷ words ≡ map decimal ns)
more_back word words None p ns one more is = cc
more_back word words (Some n) None ns one more is = cc
more_back word words (Some n) (Some ms) ns one more is =
    let same : n ∷ ms ≡ ns = cc in
    let a = one n refl in
    let b = more ms refl in
    let low : n < 2 ^ 64 = omega (arith, a.0) in
    let text : word ∷ words ≡ map decimal (n ∷ ms) = (λ i. a.1 i ∷ b.1 i) in
    subst (λ (ks : List ℕ). AreNumbers ks × (word ∷ words ≡ map decimal ks)) same ((low, b.0), text)

pub numbers_back : (ns : List ℕ) (words : List (List ℕ)) → numbers_in any words ≡ Some ns → AreNumbers ns × (words ≡ map decimal ns)
unfolding numbers_in
numbers_back [] [] is = (tt, refl)
numbers_back (n ∷ ns) [] is = cc
numbers_back ns (word ∷ words) is =
    more_back word words (number_in any word) (numbers_in any words) ns (λ n e. number_back any n word e)
    (λ ms e. numbers_back ms words e) is

pub numbers_spelled : (ns : List ℕ) → AreNumbers ns → numbers_in any (map decimal ns) ≡ Some ns
unfolding numbers_in
numbers_spelled [] h = refl
numbers_spelled (n ∷ ns) h =
    let one = number_spelled any n (omega (arith, h.0)) (omega (arith, h.0)) in
    let more = numbers_spelled ns h.1 in
    rw (one, more) refl

-- the text of a number has its value
pub value_of_text : (z : ℤ) → fits z ≡ true → signed_digits_value 10 (signed_decimal z) ≡ z
value_of_text (pos n) f =
    let k = decimal_is_IsNumeral_wide n (omega (arith, (Decides-ltb n (2 ^ 127)).0 f)) in
    let ds = decimal n in
    ap (λ (b : Bool). cond b (neg_ℤ (pos (digits_value 10 (without_leading_sign ds)))) (pos (digits_value 10 (without_leading_sign ds))))
    (no_minus ds k.0.1 k.0.0)
    ∙ ap (λ (l : List ℕ). pos (digits_value 10 l)) (unsigned ds k.0.1 k.0.0)
    ∙ ap pos k.1
value_of_text (negsuc n) f =
    let k = decimal_is_IsNumeral_wide (suc n) (omega (arith, (Decides-ltb n (2 ^ 127)).0 f)) in
    ap (λ (m : ℕ). neg_ℤ (pos m)) k.1

-- a word that spells a literal is its text
pub literal_back : (z : ℤ) (word : List ℕ) → literal_in word ≡ Some z → (fits z ≡ true) × (word ≡ signed_decimal z)
unfolding literal_in
literal_back z word is =
    let v = signed_digits_value 10 word in
    let t = both_true (fits v) (bytes_eq (signed_decimal v) word) v z is in
    let same = (bytes_eq-Decides (signed_decimal v) word).0 t.1 in
    (ap fits (sym t.2) ∙ t.0, sym same ∙ ap signed_decimal t.2)

-- the text of a literal spells it
pub literal_spelled : (z : ℤ) → fits z ≡ true → literal_in (signed_decimal z) ≡ Some z
unfolding literal_in
literal_spelled z room =
    ap (λ (v : ℤ). if fits v && bytes_eq (signed_decimal v) (signed_decimal z) then Some v else None) (value_of_text z room)
    ∙ ap (λ (b : Bool). if b && bytes_eq (signed_decimal z) (signed_decimal z) then Some z else None) room
    ∙ ap (λ (b : Bool). if b then Some z else None) ((bytes_eq-Decides (signed_decimal z) (signed_decimal z)).1 refl)

-- a literal fits where its field holds it
pub literal_fits : (z : ℤ) → IsLiteral z → fits z ≡ true
literal_fits (pos n) h = (Decides-ltb n (2 ^ 127)).1 (omega (arith, ints, h.0, h.1))
literal_fits (negsuc n) h = (Decides-ltb n (2 ^ 127)).1 (omega (arith, ints, h.0, h.1))

pub fits_literal : (z : ℤ) → fits z ≡ true → IsLiteral z
fits_literal (pos n) f = let low = (Decides-ltb n (2 ^ 127)).0 f in (omega (arith, ints), omega (arith, ints))
fits_literal (negsuc n) f = let low = (Decides-ltb n (2 ^ 127)).0 f in (omega (arith, ints), omega (arith, ints))
