-- Decimal texts and the numbers that they spell.
use Rattle.sm_replay.proofs.Imports.{◌≡◌, ◌+◌, ◌<◌, ◌^◌, ◌&&◌, ℕ, suc, ℤ, pos, negsuc, neg_ℤ, Bool, true, false, cond, if◌then◌else◌, Some, None, List, [], to_z, of_z, refl, sym, ap, subst, ◌∙◌, arith, Decides-ltb, to_z-of_z, bytes_eq-Decides, decimal, signed_decimal, w128, bytes_eq, fits, no_minus}
use Rattle.std.proofs.lemmas.Fmt.{decimal_is_IsNumeral_wide}
use Rattle.std.specs.Int.RustNames.{FitsSigned}
use Rattle.std.specs.Str.Parse.{IsNumeral, digits_value, without_leading_sign, signed_digits_value}
use lib.Signed.{mag}
use Rattle.sm_replay.specs.Number.{number_of_text}
use Rattle.sm_lemmas.proofs.Numbers.{unsigned}

-- a number that fits is small
fits_small : (z : ℤ) → fits z ≡ true → mag z < 2 ^ 127
fits_small (pos n) h = (Decides-ltb n (2 ^ 127)).0 h
fits_small (negsuc n) h = (Decides-ltb n (2 ^ 127)).0 h

-- a small number fits
pub small_fits : (z : ℤ) → mag z < 2 ^ 127 → fits z ≡ true
small_fits (pos n) h = (Decides-ltb n (2 ^ 127)).1 h
small_fits (negsuc n) h = (Decides-ltb n (2 ^ 127)).1 h

-- so it has few digits
wide : (n : ℕ) → n < 2 ^ 127 → n + 1 < 10 ^ 64
wide n h = omega arith

-- after its sign, the text of a number is digits
text_is_numeral : (z : ℤ) → mag z < 2 ^ 127 → IsNumeral 10 (without_leading_sign (signed_decimal z))
text_is_numeral (pos n) small =
    let k = decimal_is_IsNumeral_wide n (omega (arith, wide n small)) in
    subst (IsNumeral 10) (sym (unsigned (decimal n) k.0.1 k.0.0)) k.0
text_is_numeral (negsuc n) small = let k = decimal_is_IsNumeral_wide (suc n) (omega (arith, wide n small)) in k.0

-- the text of a number has its value
pub value_of_text : (z : ℤ) → mag z < 2 ^ 127 → signed_digits_value 10 (signed_decimal z) ≡ z
value_of_text (pos n) small =
    let k = decimal_is_IsNumeral_wide n (omega (arith, wide n small)) in
    let ds = decimal n in
    ap (λ (b : Bool). cond b (neg_ℤ (pos (digits_value 10 (without_leading_sign ds)))) (pos (digits_value 10 (without_leading_sign ds))))
    (no_minus ds k.0.1 k.0.0)
    ∙ ap (λ (l : List ℕ). pos (digits_value 10 l)) (unsigned ds k.0.1 k.0.0)
    ∙ ap pos k.1
value_of_text (negsuc n) small = let k = decimal_is_IsNumeral_wide (suc n) (omega (arith, wide n small)) in
    ap (λ (m : ℕ). neg_ℤ (pos m)) k.1

-- a text that is read as a number
pub spelled_ok : (text : List ℕ) (z : ℤ) (b : Bool) → z ≡ signed_digits_value 10 text → FitsSigned w128 (signed_digits_value 10 text)
    → b ≡ bytes_eq (signed_decimal z) text
    → number_of_text text ≡ (if b then Some z else None)
unfolding number_of_text
spelled_ok text z b same room is =
    ap (λ (f : Bool). if f && bytes_eq (signed_decimal (signed_digits_value 10 text)) text then Some
    (signed_digits_value 10 text) else None) (small_fits (signed_digits_value 10 text) room.sfits)
    ∙ ap (λ (y : ℤ). if bytes_eq (signed_decimal y) text then Some y else None) (sym same)
    ∙ ap (λ (c : Bool). if c then Some z else None) (sym is)

-- a text that isn't
pub spelled_err : (text : List ℕ) → ¬ (IsNumeral 10 (without_leading_sign text) × FitsSigned w128 (signed_digits_value 10 text))
    → number_of_text text ≡ None
unfolding number_of_text
spelled_err text refused = by (fits (signed_digits_value 10 text)) refl (bytes_eq (signed_decimal (signed_digits_value 10 text)) text) refl
  where
    by : (f : Bool) → fits (signed_digits_value 10 text) ≡ f → (b : Bool) → bytes_eq (signed_decimal (signed_digits_value 10 text)) text ≡ b
        → (if f && b then Some (signed_digits_value 10 text) else None) ≡ None
    by false p b q = refl
    by true p false q = refl
    by true p true q =
        let small = fits_small (signed_digits_value 10 text) p in
        let same : signed_decimal (signed_digits_value 10 text) ≡ text =
        (bytes_eq-Decides (signed_decimal (signed_digits_value 10 text)) text).0 q in
        absurd (refused (
          subst (λ (l : List ℕ). IsNumeral 10 (without_leading_sign l)) same
              (text_is_numeral (signed_digits_value 10 text) small),
          record { sfits = small },
        ))

-- the text of a number spells it
pub spells_itself : (z : ℤ) → fits z ≡ true → number_of_text (signed_decimal z) ≡ Some z
spells_itself z room =
    let small = fits_small z room in
    let same = value_of_text z small in
    spelled_ok (signed_decimal z) z true (sym same) (subst (FitsSigned w128) (sym same) (record { sfits = small }))
    (sym ((bytes_eq-Decides (signed_decimal z) (signed_decimal z)).1 refl))

-- a text that spells a number is its text
pub spelled_back : (text : List ℕ) (z : ℤ) → number_of_text text ≡ Some z → (fits z ≡ true) × (signed_decimal z ≡ text)
unfolding number_of_text
spelled_back text z is = by (fits (signed_digits_value 10 text)) refl (bytes_eq (signed_decimal (signed_digits_value 10 text)) text) refl is
  where
    by : (f : Bool) → fits (signed_digits_value 10 text) ≡ f → (b : Bool) → bytes_eq (signed_decimal (signed_digits_value 10 text)) text ≡ b
        → (if f && b then Some (signed_digits_value 10 text) else None) ≡ Some z → (fits z ≡ true) × (signed_decimal z ≡ text)
    by false p b q e = cc
    by true p false q e = cc
    by true p true q e =
        let same : signed_digits_value 10 text ≡ z = cc in
        (ap fits (sym same) ∙ p, ap signed_decimal (sym same) ∙ (bytes_eq-Decides (signed_decimal (signed_digits_value 10 text)) text).0 q)

-- what the code finds
pub spelled_then : (text : List ℕ) (z : ℤ) (r b : Bool)
    → (IsNumeral 10 (without_leading_sign text) × FitsSigned w128 (signed_digits_value 10 text)) × (z ≡ signed_digits_value 10 text)
    → r ≡ bytes_eq (signed_decimal (to_z w128 (of_z w128 z))) text → r ≡ b
    → (if b then Some (to_z w128 (of_z w128 z)) else None) ≡ number_of_text text
spelled_then text z r b h is test =
    let room : FitsSigned w128 z = subst (FitsSigned w128) (sym h.1) h.0.1 in
    let same = to_z-of_z w128 z room in
    sym (spelled_ok text (to_z w128 (of_z w128 z)) b (same ∙ h.1) h.0.1 (sym test ∙ is))
