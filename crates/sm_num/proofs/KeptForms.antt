-- Numbers and coefficients of kept forms, and their divisors.
use Rattle.sm_num.proofs.Imports.{◌≡◌, ◌≢◌, ◌<◌, ◌≤◌, ◌^◌, ◌==◌, ℕ, zero, suc, ℤ, pos, negsuc, ◌+ℤ◌, nat_abs, Bool, true, false, if◌then◌else◌, IsTrue, List, [], ◌∷◌, length, get_or, drop, take, refl, sym, ap, subst, ◌∙◌, arith, Decides-eqb, Decides-ltb, ints, drop-cons, take-nil, fits_form, coefficient, AreParts, same_atom, gcd, divisor_of_parts, divided_parts}
use Rattle.sm_num.proofs.DivisionLemmas.{DividesEach}
use Rattle.sm_num.proofs.KeptLemmas.{parts_from, divided_are_parts}
use Rattle.sm_num.proofs.Divisors.{gcd_below, gcd_is_some}

-- the sizes of numbers in the range
pub size_below : (z : ℤ) → IsTrue (fits_form z) → nat_abs z < 2 ^ 127
size_below (pos n) fits = (Decides-ltb n (2 ^ 127)).0 fits
size_below (negsuc n) fits = (Decides-ltb (suc n) (2 ^ 127)).0 fits

-- a number that isn't 0 has a size
pub size_is_some : (z : ℤ) → z ≢ pos 0 → 0 < nat_abs z
size_is_some (pos zero) other = absurd (other refl)
size_is_some (pos (suc n)) other = omega arith
size_is_some (negsuc n) other = omega arith

-- all of a list
pub take_all : {A : Type 0} (i : ℕ) (l : List A) → length l ≤ i → take i l ≡ l
take_all i [] le = take-nil i
take_all zero (a ∷ l) le = absurd (omega arith)
take_all (suc i) (a ∷ l) le = ap (λ m. a ∷ m) (take_all i l (omega arith))

-- a choice, by cases
pub chosen : {A : Type 0} (b : Bool) (P : A → Type 0) (x y : A) → (b ≡ true → P x) → (b ≡ false → P y) → P (if b then x else y)
chosen true P x y first second = first refl
chosen false P x y first second = second refl

-- a number that isn't 0 by its test
pub some_by_test : (d : ℕ) → (d == 0) ≡ false → 0 < d
some_by_test zero e = absurd cc
some_by_test (suc d) e = omega arith

-- those that are left
pub dropped : (least i : ℕ) (ps : List (ℕ × ℤ)) → AreParts least ps → AreParts least (drop i ps)
dropped least zero ps kept = kept
dropped least (suc i) [] kept = tt
dropped least (suc i) (p ∷ ps) kept = let first = kept.0 in dropped least i ps (parts_from (suc p.0) least ps (omega arith) kept.3)

-- a lesser atom has no part
pub coefficient_below : (t least : ℕ) (ps : List (ℕ × ℤ)) → t < least → AreParts least ps → coefficient same_atom t ps ≡ pos 0
coefficient_below t least [] lt kept = refl
coefficient_below t least (p ∷ ps) lt kept =
    let first = kept.0 in
    chosen (t == p.0) (λ (z : ℤ). z ≡ pos 0) (p.1 +ℤ coefficient same_atom t ps) (coefficient same_atom t ps)
    (λ (e : (t == p.0) ≡ true). let same = (Decides-eqb t p.0).0 e in absurd (omega arith))
    (λ (e : (t == p.0) ≡ false). coefficient_below t (suc p.0) ps (omega arith) kept.3)

coefficient_alone : (t : ℕ) (p : ℕ × ℤ) (ps : List (ℕ × ℤ)) → coefficient same_atom t ps ≡ pos 0 → p.1 +ℤ coefficient same_atom t ps ≡ p.1
coefficient_alone t p ps none = ap (λ (z : ℤ). p.1 +ℤ z) none ∙ plus_zero p.1
  where
    plus_zero : (z : ℤ) → (z +ℤ pos 0) ≡ z
    plus_zero z = omega (arith, ints)

-- the first part with the atom has its coefficient
pub coefficient_first : (t least : ℕ) (p : ℕ × ℤ) (ps : List (ℕ × ℤ)) → AreParts least (p ∷ ps) → t ≡ p.0 →
    coefficient same_atom t (p ∷ ps) ≡ p.1
coefficient_first t least p ps kept same =
    ap (λ (b : Bool). if b then p.1 +ℤ coefficient same_atom t ps else coefficient same_atom t ps) ((Decides-eqb t p.0).1 same) ∙
    coefficient_alone t p ps (coefficient_below t (suc p.0) ps (omega arith) kept.3)

-- that of the part at a place
pub coefficient_at : (t i : ℕ) (ps : List (ℕ × ℤ)) → AreParts 0 ps → i < length ps → (get_or ps i (0, pos 0)).0 ≡ t →
    coefficient same_atom t (drop i ps) ≡ (get_or ps i (0, pos 0)).1
coefficient_at t i ps kept within here =
    let shown = drop-cons ps i (0, pos 0) within in
    let rest = subst (AreParts 0) shown (dropped 0 i ps kept) in
    ap (coefficient same_atom t) shown ∙ coefficient_first t 0 (get_or ps i (0, pos 0)) (drop (suc i) ps) rest (sym here)

-- coefficients are in the range
pub coefficient_fits : (t least : ℕ) (ps : List (ℕ × ℤ)) → AreParts least ps → IsTrue (fits_form (coefficient same_atom t ps))
coefficient_fits t least [] kept = refl
coefficient_fits t least (p ∷ ps) kept =
    chosen (t == p.0) (λ (z : ℤ). IsTrue (fits_form z)) (p.1 +ℤ coefficient same_atom t ps) (coefficient same_atom t ps)
    (λ (e : (t == p.0) ≡ true).
    let same = (Decides-eqb t p.0).0 e in
    subst (λ (z : ℤ). IsTrue (fits_form z)) (sym (coefficient_alone t p ps (coefficient_below t (suc p.0) ps (omega arith) kept.3))) kept.1)
    (λ (e : (t == p.0) ≡ false). coefficient_fits t (suc p.0) ps kept.3)

-- the greatest common divisor of the parts is in the range
pub divisor_below : (least : ℕ) (ps : List (ℕ × ℤ)) → AreParts least ps → divisor_of_parts ps < 2 ^ 127
divisor_below least [] kept = omega arith
divisor_below least (p ∷ ps) kept = gcd_below (nat_abs p.1) (divisor_of_parts ps) (2 ^ 127) (size_below p.1 kept.1)
    (divisor_below (suc p.0) ps kept.3)

-- parts that were divided
pub divided_items : (d : ℕ) (items qs ps : List (ℕ × ℤ)) → items ≡ divided_parts d qs → qs ≡ ps → DividesEach d ps → AreParts 0 ps →
    AreParts 0 items
divided_items d items qs ps done same all kept =
    subst (AreParts 0) (sym (done ∙ ap (λ (l : List (ℕ × ℤ)). divided_parts d l) same)) (divided_are_parts d 0 ps all kept)

-- the divisor of all numbers of a form is in the range, too
pub divisor_of_all_below : (z : ℤ) (ps : List (ℕ × ℤ)) → IsTrue (fits_form z) → AreParts 0 ps →
    gcd (nat_abs z) (divisor_of_parts ps) < 2 ^ 127
divisor_of_all_below z ps fits kept = gcd_below (nat_abs z) (divisor_of_parts ps) (2 ^ 127) (size_below z fits) (divisor_below 0 ps kept)

-- the divisor of parts isn't 0 where there is a part
pub divisor_is_some : (ps : List (ℕ × ℤ)) → AreParts 0 ps → 0 < length ps → 0 < divisor_of_parts ps
divisor_is_some [] kept some = absurd (omega arith)
divisor_is_some (p ∷ ps) kept some = gcd_is_some (nat_abs p.1) (divisor_of_parts ps) (size_is_some p.1 kept.2)
