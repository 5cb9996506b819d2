-- Greatest common divisors, and numbers divided by them and rounded.
use Rattle.sm_num.proofs.Imports.{◌≡◌, ◌↔◌, ℕ, zero, suc, ◌+◌, ◌-◌, ◌*◌, ◌/◌, ◌%◌, ◌<◌, ◌≤◌, ℤ, pos, negsuc, neg_ℤ, nat_abs, ◌+ℤ◌, ◌*ℤ◌, ◌≤ℤ◌, ◌<ℤ◌, Bool, if◌then◌else◌, List, [], ◌∷◌, refl, sym, ap, subst, ◌∙◌, ⊎_elim, arith, mod-lt, div-add-mod', div-lt_iff_lt-mul, le-div_iff_mul-le, mul-le-mul_left, mul-le-mul_right, eq-zero-or-pos, ne_eqb, IsGcd-from_zero, IsGcd-from_mod, dvd_trans, dvd-zero, IsGcd, Satisfies, sum_of_parts, Kind, Le, Eq, gcd_within, floor_of, divisor_of_parts, divided_parts, by_lt_z, unsigned_abs-mul}
use native.Mathlib.Nat.{div-mul_cancel, mul-div_cancel', eq-zero_of_zero-dvd}
use Prim.Native.Nat.{◌∣◌}
use Rattle.sm_num.specs.Eliminating.{gcd}
use borrow.Author.Differences.{up, down, le_out, product_is}
use Rattle.sm_num.proofs.RingLemmas.{sums, mul-add_right, mul_assoc, mul_one, mul_zero, zero_mul}
use Rattle.sm_num.proofs.OutcomeLemmas.{Each}

-- Euclid's algorithm finds the greatest common divisor in fewer steps than it may take
gcd_within_is : (n a b : ℕ) → b < n → IsGcd a b (gcd_within n a b)
gcd_within_is zero a b few = absurd (omega arith)
gcd_within_is (suc n) a zero few = IsGcd-from_zero a zero refl
gcd_within_is (suc n) a (suc b) few =
    let less : a % suc b < suc b = omega arith in
    IsGcd-from_mod a (suc b) (gcd_within n (suc b) (a % suc b)) (gcd_within_is n (suc b) (a % suc b) (omega arith))

-- gcd is the greatest common divisor
pub gcd_is : (a b : ℕ) → IsGcd a b (gcd a b)
unfolding gcd
gcd_is a b = gcd_within_is (suc b) a b (omega arith)

-- 0 divides 0 alone
pub zero_divides : (d n : ℕ) → d ≡ 0 → d ∣ n → n ≡ 0
zero_divides d n none divides = eq-zero_of_zero-dvd (subst (λ (x : ℕ). x ∣ n) none divides)

-- n/d times m is m/d times n where d divides both
pub cross : (d m n : ℕ) → d ∣ m → d ∣ n → (n / d) * m ≡ (m / d) * n
cross d m n first second =
    let a = div-mul_cancel d first in
    let b = div-mul_cancel d second in
    let left : (n / d) * ((m / d) * d) ≡ (n / d) * m = ap (λ (x : ℕ). (n / d) * x) a in
    let right : (m / d) * ((n / d) * d) ≡ (m / d) * n = ap (λ (x : ℕ). (m / d) * x) b in
    omega arith

-- not dividing by 0
pub floor_by_zero : (z : ℤ) → floor_of z 0 ≡ z
floor_by_zero (pos n) = refl
floor_by_zero (negsuc n) = refl

pub floor_pos : (n d : ℕ) → 0 < d → floor_of (pos n) d ≡ pos (n / d)
floor_pos n d some = ap (λ (b : Bool). if b then pos n else pos (n / d)) (ne_eqb d 0 (λ (e : d ≡ 0). omega arith))

pub floor_negsuc : (n d : ℕ) → 0 < d → floor_of (negsuc n) d ≡ negsuc (n / d)
floor_negsuc n d some = ap (λ (b : Bool). if b then negsuc n else negsuc (n / d)) (ne_eqb d 0 (λ (e : d ≡ 0). omega arith))

-- d times the rounded quotient is at most the number, and more than the number less d
pub floor_bounds : (z : ℤ) (d : ℕ) → 0 < d → ((pos d *ℤ floor_of z d) ≤ℤ z) × (z ≤ℤ ((pos d *ℤ floor_of z d) +ℤ pos (d - 1)))
floor_bounds (pos n) d some =
    let small = mod-lt n some in
    let split = div-add-mod' n d in
    rw (floor_pos n d some) (omega (arith, sums), omega (arith, sums))
floor_bounds (negsuc n) d some =
    let small = mod-lt n some in
    let split = div-add-mod' n d in
    rw (floor_negsuc n d some) (omega (arith, sums), omega (arith, sums))

-- a whole quotient is one more than that of the number before
whole_quotient : (n d k : ℕ) → 0 < d → k * d ≡ suc n → d * suc (n / d) ≡ suc n
whole_quotient n d zero some whole = absurd (omega arith)
whole_quotient n d (suc j) some whole =
    let above : n / d < suc j = (div-lt_iff_lt-mul some).1 (omega arith) in
    let below : j ≤ n / d = (le-div_iff_mul-le some).1 (omega arith) in
    let equal : n / d ≡ j = omega arith in
    rw equal (omega arith)

-- a quotient without remainder
pub floor_exact : (z : ℤ) (d : ℕ) → d ∣ nat_abs z → 0 < d → pos d *ℤ floor_of z d ≡ z
floor_exact (pos n) d divides some = ap (λ (x : ℤ). pos d *ℤ x) (floor_pos n d some) ∙ ap pos (mul-div_cancel' d divides)
floor_exact (negsuc n) d divides some =
    ap (λ (x : ℤ). pos d *ℤ x) (floor_negsuc n d some)
    ∙ ap (λ (x : ℕ). neg_ℤ (pos x)) (whole_quotient n d (suc n / d) some (div-mul_cancel d divides))

-- products by one positive number compare as the numbers do
pub mul_mono : (d : ℕ) (x y : ℤ) → x ≤ℤ y → (pos d *ℤ x) ≤ℤ (pos d *ℤ y)
mul_mono d x y less =
    let order = le_out x y less in
    let times : d * (up x + down y) ≤ d * (up y + down x) = mul-le-mul_left d order in
    omega (arith, sums, product_is)

-- what d times is at most a number is at most its quotient rounded down
pub floor_galois : (x z : ℤ) (d : ℕ) → 0 < d → ((pos d *ℤ x) ≤ℤ z) ↔ (x ≤ℤ floor_of z d)
floor_galois x z d some =
    let bounds = floor_bounds z d some in (
      λ (h : (pos d *ℤ x) ≤ℤ z).
          by_lt_z {P = x ≤ℤ floor_of z d} (floor_of z d) x
          (λ (above : floor_of z d <ℤ x).
          let more : (floor_of z d +ℤ pos 1) ≤ℤ x = omega (arith, sums) in
          let times = mul_mono d (floor_of z d +ℤ pos 1) x more in
          let split : pos d *ℤ (floor_of z d +ℤ pos 1) ≡ (pos d *ℤ floor_of z d) +ℤ pos d = mul-add_right (pos d) (floor_of z d) (pos 1)
          ∙ ap (λ (y : ℤ). (pos d *ℤ floor_of z d) +ℤ y) (mul_one (pos d)) in
          absurd (omega (arith, sums)))
          (λ (least : x ≤ℤ floor_of z d). least),
      λ (h : x ≤ℤ floor_of z d). let times = mul_mono d x (floor_of z d) h in omega (arith, sums, bounds.0),
    )

-- a number of size 0 is 0
no_size : (x : ℤ) → nat_abs x ≡ 0 → x ≡ pos 0
no_size (pos n) none = ap pos none
no_size (negsuc n) none = absurd (omega arith)

-- a number is 0 where d times the number is 0, for a d above 0
no_factor : (d : ℕ) (x : ℤ) → 0 < d → pos d *ℤ x ≡ pos 0 → x ≡ pos 0
no_factor d x some h =
    let sizes : d * nat_abs x ≡ 0 = sym (unsigned_abs-mul (pos d) x) ∙ ap nat_abs h in
    let least : 1 * nat_abs x ≤ d * nat_abs x = mul-le-mul_right (nat_abs x) some in
    no_size x (omega arith)

-- a number and d times the number are as a kind says alike
pub satisfies_times : (kind : Kind) (d : ℕ) (x : ℤ) → 0 < d → Satisfies kind (pos d *ℤ x) ↔ Satisfies kind x
satisfies_times Le d x some = (
  λ (h : (pos d *ℤ x) ≤ℤ pos 0).
      by_lt_z {P = x ≤ℤ pos 0} (pos 0) x
      (λ (above : pos 0 <ℤ x).
      let more : pos 1 ≤ℤ x = omega (arith, sums) in
      let times = mul_mono d (pos 1) x more in
      let one = mul_one (pos d) in
      absurd (omega (arith, sums)))
      (λ (least : x ≤ℤ pos 0). least),
  λ (h : x ≤ℤ pos 0). let times = mul_mono d x (pos 0) h in let none = mul_zero (pos d) in omega (arith, sums),
)
satisfies_times Eq d x some = (
  λ (h : pos d *ℤ x ≡ pos 0). no_factor d x some h,
  λ (h : x ≡ pos 0). ap (λ (y : ℤ). pos d *ℤ y) h ∙ mul_zero (pos d),
)

module _ {A : Type 0} where
  -- d divides each coefficient
  abbrev pub DividesEach : ℕ → List (A × ℤ) → Type 0
  DividesEach d ps = Each (λ r. d ∣ nat_abs r.1) ps

  -- the greatest common divisor of coefficients divides each
  pub divisor_divides : (d : ℕ) (ps : List (A × ℤ)) → d ∣ divisor_of_parts ps → DividesEach d ps
  divisor_divides d [] divides = tt
  divisor_divides d (p ∷ ps) divides =
      let is = gcd_is (nat_abs p.1) (divisor_of_parts ps) in
      (dvd_trans d divides is.0, divisor_divides d ps (dvd_trans d divides is.1))

  -- a number that divides each coefficient divides their greatest common divisor
  pub divides_divisor : (d : ℕ) (ps : List (A × ℤ)) → DividesEach d ps → d ∣ divisor_of_parts ps
  divides_divisor d [] each = dvd-zero d
  divides_divisor d (p ∷ ps) each = (gcd_is (nat_abs p.1) (divisor_of_parts ps)).2 d each.0 (divides_divisor d ps each.1)

  -- parts divided without remainder
  pub divided_sum : (v : A → ℤ) (d : ℕ) (ps : List (A × ℤ)) → 0 < d → DividesEach d ps →
      sum_of_parts v ps ≡ pos d *ℤ sum_of_parts v (divided_parts d ps)
  divided_sum v d [] some each = sym (mul_zero (pos d))
  divided_sum v d (p ∷ ps) some each =
      let here = floor_exact p.1 d each.0 some in
      let rest = divided_sum v d ps some each.1 in
      ap (λ (x : ℤ). x +ℤ sum_of_parts v ps) (ap (λ (x : ℤ). x *ℤ v p.0) (sym here) ∙ mul_assoc (pos d) (floor_of p.1 d) (v p.0))
      ∙ ap (λ (x : ℤ). (pos d *ℤ (floor_of p.1 d *ℤ v p.0)) +ℤ x) rest
      ∙ sym (mul-add_right (pos d) (floor_of p.1 d *ℤ v p.0) (sum_of_parts v (divided_parts d ps)))

  -- parts that aren't divided
  pub undivided : (ps : List (A × ℤ)) → divided_parts 0 ps ≡ ps
  undivided [] = refl
  undivided (p ∷ ps) = rw (floor_by_zero p.1, undivided ps) refl

  -- the sum of parts whose coefficients d divides is d times a number
  pub sum_divides : (v : A → ℤ) (d : ℕ) (ps : List (A × ℤ)) → DividesEach d ps → (x : ℤ) × (sum_of_parts v ps ≡ pos d *ℤ x)
  sum_divides v d ps each =
      ⊎_elim
      (λ (e : d ≡ 0). (pos 0, zero_sum v d ps e each ∙ sym (mul_zero (pos d))))
      (λ (some : 0 < d). (sum_of_parts v (divided_parts d ps), divided_sum v d ps some each))
      (eq-zero-or-pos d)
    where
      zero_sum : (v : A → ℤ) (d : ℕ) (ps : List (A × ℤ)) → d ≡ 0 → DividesEach d ps → sum_of_parts v ps ≡ pos 0
      zero_sum v d [] e each = refl
      zero_sum v d (p ∷ ps) e each =
          let none = no_size p.1 (zero_divides d (nat_abs p.1) e each.0) in
          let here = ap (λ (x : ℤ). x *ℤ v p.0) none ∙ zero_mul (v p.0) in
          let rest = zero_sum v d ps e each.1 in
          omega (arith, sums)
