-- Where two forms hold and an atom cancels, the sum in which it cancels holds.
use Rattle.sm_num.proofs.Imports.{◌≡◌, ◌↔◌, ℕ, suc, ◌/◌, ◌<◌, ℤ, pos, negsuc, neg_ℤ, nat_abs, ◌+ℤ◌, ◌*ℤ◌, ◌≤ℤ◌, Bool, true, false, not, ◌&&◌, ◌||◌, if◌then◌else◌, IsTrue, List, refl, sym, ap, subst, ◌∙◌, ⊎_elim, arith, eq-zero-or-pos, and_parts, int_eq, Linear, Satisfies, HoldsAt, sum_of_parts, coefficient, parts_without, without, Kind, Le, Eq, Outcome, Fits, Leaves, formed, combined, combination, gcd, is_equation, signs_alike, can_cancel, multipliers, kind_of_sum, floor_of, divisor_of_parts, divided_parts, divided, eliminated, elimination, same_atom, value_of_form}
use Prim.Native.Nat.{◌∣◌}
use Rattle.sm_num.proofs.RingLemmas.{sums, ring, mul-neg_left, mul-add_right, mul_zero, zero_mul}
use Rattle.sm_num.proofs.OutcomeLemmas.{Gives, gives_fits, gives_both, then_gives}
use Rattle.sm_num.proofs.SameAtomLemmas.{IsSound, AreReduced, reduced_filter, same_atom_sound}
use Rattle.sm_num.proofs.FormValues.{HasValue, sum_without, combination_gives_value, combined_gives_value}
use Rattle.sm_num.proofs.DivisionLemmas.{cross, gcd_is, floor_by_zero, floor_exact, mul_mono, satisfies_times, DividesEach, divisor_divides, divided_sum, undivided}

-- sums that cancel
less_second : (p q : ℤ) (a b : ℤ) → p *ℤ a ≡ q *ℤ b → (p *ℤ a) +ℤ (neg_ℤ q *ℤ b) ≡ pos 0
less_second p q a b e = rw (mul-neg_left q b) (omega (arith, sums))

less_first : (p q : ℤ) (a b : ℤ) → p *ℤ a ≡ q *ℤ b → (neg_ℤ p *ℤ a) +ℤ (q *ℤ b) ≡ pos 0
less_first p q a b e = rw (mul-neg_left p a) (omega (arith, sums))

-- n/d times a number of size m is m/d times one of size n, and of the same sign
alike : (a b : ℤ) → signs_alike a b ≡ true →
    pos (nat_abs b / gcd (nat_abs a) (nat_abs b)) *ℤ a ≡ pos (nat_abs a / gcd (nat_abs a) (nat_abs b)) *ℤ b
alike (pos m) (pos n) e = let is = gcd_is m n in ap pos (cross (gcd m n) m n is.0 is.1)
alike (pos m) (negsuc n) e = absurd cc
alike (negsuc m) (pos n) e = absurd cc
alike (negsuc m) (negsuc n) e = let is =
    gcd_is (suc m) (suc n) in ap (λ (x : ℕ). neg_ℤ (pos x)) (cross (gcd (suc m) (suc n)) (suc m) (suc n) is.0 is.1)

-- of the other sign
unlike : (a b : ℤ) → signs_alike a b ≡ false →
    (pos (nat_abs b / gcd (nat_abs a) (nat_abs b)) *ℤ a) +ℤ (pos (nat_abs a / gcd (nat_abs a) (nat_abs b)) *ℤ b) ≡ pos 0
unlike (pos m) (pos n) e = absurd cc
unlike (pos m) (negsuc n) e = let is = gcd_is m (suc n) in let even = cross (gcd m (suc n)) m (suc n) is.0 is.1 in omega (arith, sums)
unlike (negsuc m) (pos n) e = let is = gcd_is (suc m) n in let even = cross (gcd (suc m) n) (suc m) n is.0 is.1 in omega (arith, sums)
unlike (negsuc m) (negsuc n) e = absurd cc

-- with their multipliers coefficients cancel
pub multipliers_cancel : (a b : ℤ) (kind : Kind) → ((multipliers a b kind).0 *ℤ a) +ℤ ((multipliers a b kind).1 *ℤ b) ≡ pos 0
multipliers_cancel a b kind = by (signs_alike a b) (is_equation kind) refl
  where
    p : ℤ
    p = pos (nat_abs b / gcd (nat_abs a) (nat_abs b))

    q : ℤ
    q = pos (nat_abs a / gcd (nat_abs a) (nat_abs b))

    by : (s k : Bool) → signs_alike a b ≡ s →
        let m : ℤ × ℤ = if s then (if k then (p, neg_ℤ q) else (neg_ℤ p, q)) else (p, q) in (m.0 *ℤ a) +ℤ (m.1 *ℤ b) ≡ pos 0
    by true true e = less_second (pos (nat_abs b / gcd (nat_abs a) (nat_abs b))) (pos (nat_abs a / gcd (nat_abs a) (nat_abs b))) a b
        (alike a b e)
    by true false e = less_first (pos (nat_abs b / gcd (nat_abs a) (nat_abs b))) (pos (nat_abs a / gcd (nat_abs a) (nat_abs b))) a b
        (alike a b e)
    by false k e = unlike a b e

-- a number that isn't below 0
at_least : (n : ℕ) → pos 0 ≤ℤ pos n
at_least n = omega (arith, sums)

-- the multiplier of a bound isn't below 0
pub multipliers_serve : (a b : ℤ) (first second : Kind) → IsTrue (is_equation first || (is_equation second || not (signs_alike a b))) →
    (first ≡ Le → pos 0 ≤ℤ (multipliers a b second).0) × (second ≡ Le → pos 0 ≤ℤ (multipliers a b second).1)
multipliers_serve a b first second cancels =
    by first second (signs_alike a b) (nat_abs b / gcd (nat_abs a) (nat_abs b)) (nat_abs a / gcd (nat_abs a) (nat_abs b)) cancels
  where
    by : (first second : Kind) (s : Bool) (p q : ℕ) → IsTrue (is_equation first || (is_equation second || not s)) →
        let m : ℤ × ℤ = if s then (if is_equation second then (pos p, neg_ℤ (pos q)) else (neg_ℤ (pos p), pos q)) else (pos p, pos q) in
        (first ≡ Le → pos 0 ≤ℤ m.0) × (second ≡ Le → pos 0 ≤ℤ m.1)
    by Le Le true p q e = absurd cc
    by Le Eq true p q e = (λ (x : Le ≡ Le). at_least p, λ (x : Eq ≡ Le). absurd cc)
    by Eq Le true p q e = (λ (x : Eq ≡ Le). absurd cc, λ (x : Le ≡ Le). at_least q)
    by Eq Eq true p q e = (λ (x : Eq ≡ Le). absurd cc, λ (x : Eq ≡ Le). absurd cc)
    by first second false p q e = (λ (x : first ≡ Le). at_least p, λ (x : second ≡ Le). at_least q)

-- a bound times a number that isn't below 0
bound_times : (p x : ℤ) → pos 0 ≤ℤ p → x ≤ℤ pos 0 → (p *ℤ x) ≤ℤ pos 0
bound_times (pos n) x first second = let less = mul_mono n x (pos 0) second in let none = mul_zero (pos n) in omega (arith, sums)
bound_times (negsuc n) x first second = absurd (omega (arith, sums))

-- sums are as the kind of the sum says
pub sum_satisfies : (first second : Kind) (p q x y : ℤ) → (first ≡ Le → pos 0 ≤ℤ p) → (second ≡ Le → pos 0 ≤ℤ q) →
    Satisfies first x → Satisfies second y → Satisfies (kind_of_sum first second) ((p *ℤ x) +ℤ (q *ℤ y))
sum_satisfies Le Le p q x y left right f g = let one = bound_times p x (left refl) f in let other =
    bound_times q y (right refl) g in omega (arith, sums)
sum_satisfies Le Eq p q x y left right f g =
    let one = bound_times p x (left refl) f in
    let other = ap (λ (z : ℤ). q *ℤ z) g ∙ mul_zero q in
    omega (arith, sums)
sum_satisfies Eq Le p q x y left right f g =
    let one = ap (λ (z : ℤ). p *ℤ z) f ∙ mul_zero p in
    let other = bound_times q y (right refl) g in
    omega (arith, sums)
sum_satisfies Eq Eq p q x y left right f g =
    let one = ap (λ (z : ℤ). p *ℤ z) f ∙ mul_zero p in
    let other = ap (λ (z : ℤ). q *ℤ z) g ∙ mul_zero q in
    omega (arith, sums)

-- two facts that are one where two numbers are equal
satisfies_at : (kind : Kind) (x y : ℤ) → x ≡ y → Satisfies kind x ↔ Satisfies kind y
satisfies_at kind x y e = (subst (Satisfies kind) e, subst (Satisfies kind) (sym e))

module _ {A : Type 0} (v : A → ℤ) where
  -- parts and a constant, all divided without remainder, say the same
  pub divided_by_holds : (d : ℕ) (ps : List (A × ℤ)) (c : ℤ) (kind : Kind) → DividesEach d ps → d ∣ nat_abs c →
      Satisfies kind (sum_of_parts v ps +ℤ c) ↔ Satisfies kind (sum_of_parts v (divided_parts d ps) +ℤ floor_of c d)
  divided_by_holds d ps c kind each whole =
      ⊎_elim
      (λ (e : d ≡ 0).
      satisfies_at kind (sum_of_parts v ps +ℤ c) (sum_of_parts v (divided_parts d ps) +ℤ floor_of c d)
      (subst (λ (x : ℕ). sum_of_parts v ps +ℤ c ≡ sum_of_parts v (divided_parts x ps) +ℤ floor_of c x) (sym e)
      (rw (undivided ps, floor_by_zero c) refl)))
      (λ (some : 0 < d).
      let times = satisfies_times kind d (sum_of_parts v (divided_parts d ps) +ℤ floor_of c d) some in
      let parts = divided_sum v d ps some each in
      let constant = floor_exact c d whole some in
      let split = mul-add_right (pos d) (sum_of_parts v (divided_parts d ps)) (floor_of c d) in
      let same : sum_of_parts v ps +ℤ c ≡ pos d *ℤ (sum_of_parts v (divided_parts d ps) +ℤ floor_of c d) = omega (arith, sums) in
      let at = satisfies_at kind (sum_of_parts v ps +ℤ c) (pos d *ℤ (sum_of_parts v (divided_parts d ps) +ℤ floor_of c d)) same in (
        λ (h : Satisfies kind (sum_of_parts v ps +ℤ c)). times.0 (at.0 h),
        λ (h : Satisfies kind (sum_of_parts v (divided_parts d ps) +ℤ floor_of c d)). at.1 (times.1 h),
      ))
      (eq-zero-or-pos d)

  -- a form divided says the same
  pub divided_holds : (f : Linear A) → HoldsAt v f ↔ HoldsAt v (divided f)
  divided_holds f =
      let is = gcd_is (nat_abs f.constant) (divisor_of_parts f.parts) in
      divided_by_holds (gcd (nat_abs f.constant) (divisor_of_parts f.parts)) f.parts f.constant f.kind
      (divisor_divides (gcd (nat_abs f.constant) (divisor_of_parts f.parts)) f.parts is.1) is.0

  -- the value of the sum of forms without an atom that cancels
  cancelled_value : (p q a b x r s c d : ℤ) → (p *ℤ a) +ℤ (q *ℤ b) ≡ pos 0 →
      (p *ℤ (r +ℤ c)) +ℤ (q *ℤ (s +ℤ d)) ≡ (p *ℤ (((a *ℤ x) +ℤ r) +ℤ c)) +ℤ (q *ℤ (((b *ℤ x) +ℤ s) +ℤ d))
  cancelled_value p q a b x r s c d e =
      let none : ((p *ℤ a) +ℤ (q *ℤ b)) *ℤ x ≡ pos 0 = ap (λ (y : ℤ). y *ℤ x) e ∙ zero_mul x in
      let split = simp ring at none in
      simp ring (omega (arith, sums))

  -- a form with that value holds
  pub cancelled_holds : (same : A → A → Bool) → IsSound same → (f g h : Linear A) (t : A) → IsTrue (can_cancel same f g t) → HoldsAt v f →
      HoldsAt v g →
      h.kind ≡ kind_of_sum f.kind g.kind →
      HasValue v (without same t f) (multipliers (coefficient same t f.parts) (coefficient same t g.parts) g.kind).0
      (without same t g) (multipliers (coefficient same t f.parts) (coefficient same t g.parts) g.kind).1 h →
      HoldsAt v h
  cancelled_holds same sound f g h t cancels first second kind value =
      let a = coefficient same t f.parts in
      let b = coefficient same t g.parts in
      let p = (multipliers a b g.kind).0 in
      let q = (multipliers a b g.kind).1 in
      let inner = (and_parts (not (int_eq a (pos 0)))
      (not (int_eq b (pos 0)) && (is_equation f.kind || (is_equation g.kind || not (signs_alike a b)))) cancels).1 in
      let signs = (and_parts (not (int_eq b (pos 0))) (is_equation f.kind || (is_equation g.kind || not (signs_alike a b))) inner).1 in
      let serve = multipliers_serve a b f.kind g.kind signs in
      let sum = sum_satisfies f.kind g.kind p q (value_of_form v f) (value_of_form v g) serve.0 serve.1 first second in
      let whole = cancelled_value p q a b (v t) (sum_of_parts v (parts_without same t f.parts))
      (sum_of_parts v (parts_without same t g.parts)) f.constant g.constant (multipliers_cancel a b g.kind) in
      let in_f = sum_without v same sound t f.parts in
      let in_g = sum_without v same sound t g.parts in
      let equal : value_of_form v h ≡ (p *ℤ value_of_form v f) +ℤ (q *ℤ value_of_form v g) =
      value ∙ whole ∙ ap (λ (x : ℤ).
      (p *ℤ (x +ℤ f.constant)) +ℤ (q *ℤ (((b *ℤ v t) +ℤ sum_of_parts v (parts_without same t g.parts)) +ℤ g.constant))) (sym in_f)
      ∙ ap (λ (x : ℤ). (p *ℤ value_of_form v f) +ℤ (q *ℤ (x +ℤ g.constant))) (sym in_g) in
      subst (λ (k : Kind). Satisfies k (value_of_form v h)) (sym kind) (subst (Satisfies (kind_of_sum f.kind g.kind)) (sym equal) sum)

  -- the kind of parts with a constant
  formed_kind : (parts : Outcome (List (A × ℤ))) (constant : Outcome ℤ) (kind : Kind) →
      Gives (λ (h : Linear A). h.kind ≡ kind) (formed parts constant kind)
  formed_kind (Fits ps) (Fits c) kind = refl
  formed_kind (Fits ps) (Leaves op y z) kind = tt
  formed_kind (Leaves op y z) constant kind = tt

  -- where two forms hold and an atom cancels, their sum over any atoms holds, the first form reduced
  pub elimination_holds : (same : A → A → Bool) → IsSound same → (f g h : Linear A) (t : A) → AreReduced same f.parts →
      IsTrue (can_cancel same f g t) →
      HoldsAt v f → HoldsAt v g → elimination same f g t ≡ Fits h → HoldsAt v h
  elimination_holds same sound f g h t reduced cancels first second e =
      let m = multipliers (coefficient same t f.parts) (coefficient same t g.parts) g.kind in
      let kind = kind_of_sum f.kind g.kind in
      let rest = without same t f in
      let other = without same t g in
      let sum = combination same rest m.0 other m.1 kind in
      gives_fits (HoldsAt v) (elimination same f g t) h
      (then_gives (λ (k : Linear A). (k.kind ≡ kind) × HasValue v rest m.0 other m.1 k) (HoldsAt v) sum (λ k. Fits (divided k))
      (gives_both (λ (k : Linear A). k.kind ≡ kind) (HasValue v rest m.0 other m.1) sum (formed_kind _ _ kind)
      (combination_gives_value v same sound rest other m.0 m.1 kind (reduced_filter same (λ r. not (same t r.0)) f.parts reduced)))
      (λ (k : Linear A) (both : (k.kind ≡ kind) × HasValue v rest m.0 other m.1 k). (divided_holds k).0
      (cancelled_holds same sound f g k t cancels first second both.0 both.1)))
      e

-- where two forms over numbered atoms hold and an atom cancels, their sum holds
pub eliminated_holds : (f g h : Linear ℕ) (t : ℕ) (v : ℕ → ℤ) → IsTrue (can_cancel same_atom f g t) → HoldsAt v f → HoldsAt v g →
    eliminated f g t ≡ Fits h → HoldsAt v h
eliminated_holds f g h t v cancels first second e =
    let m = multipliers (coefficient same_atom t f.parts) (coefficient same_atom t g.parts) g.kind in
    let kind = kind_of_sum f.kind g.kind in
    let rest = without same_atom t f in
    let other = without same_atom t g in
    let sum = combined rest m.0 other m.1 kind in
    gives_fits (HoldsAt v) (eliminated f g t) h
    (then_gives (λ (k : Linear ℕ). (k.kind ≡ kind) × HasValue v rest m.0 other m.1 k) (HoldsAt v) sum (λ k. Fits (divided k))
    (gives_both (λ (k : Linear ℕ). k.kind ≡ kind) (HasValue v rest m.0 other m.1) sum (formed_kind v _ _ kind)
    (combined_gives_value v rest other m.0 m.1 kind))
    (λ (k : Linear ℕ) (both : (k.kind ≡ kind) × HasValue v rest m.0 other m.1 k). (divided_holds v k).0
    (cancelled_holds v same_atom same_atom_sound f g k t cancels first second both.0 both.1)))
    e
