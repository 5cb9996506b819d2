-- A form and its tight form say the same of whole numbers, and a contradiction says nothing true.
use Rattle.sm_num.proofs.Imports.{◌≡◌, ◌↔◌, ℕ, zero, suc, ◌%◌, ◌*◌, ◌<◌, ◌==◌, ℤ, pos, negsuc, neg_ℤ, nat_abs, ◌+ℤ◌, ◌*ℤ◌, ◌≤ℤ◌, Bool, true, false, not, if◌then◌else◌, IsTrue, List, [], ◌∷◌, refl, sym, ap, subst, ◌∙◌, ⊎_elim, arith, eq-zero-or-pos, eqb-true, eq-eqb, and_parts, ltb-true, int_eq, Decides-int_eq, unsigned_abs-mul, Linear, Satisfies, HoldsAt, sum_of_parts, Kind, Le, Eq, floor_of, ceiling_of, divisor_of_parts, divided_parts, has_no_part, one_is_zero, tightened_by, tightened, fails, is_contradictory}
use Prim.Native.Nat.{◌∣◌}
use native.Mathlib.Nat.{dvd_of_mod-eq-zero, mod-eq-zero_of_dvd, dvd-mul_right, dvd_refl}
use lib.IntN.{neg_ℤ-neg_ℤ}
use Rattle.sm_num.proofs.RingLemmas.{sums}
use Rattle.sm_num.proofs.SameAtomLemmas.{not_both}
use Rattle.sm_num.proofs.DivisionLemmas.{floor_galois, floor_by_zero, DividesEach, divisor_divides, divided_sum, undivided, sum_divides}
use Rattle.sm_num.proofs.EliminationSound.{divided_by_holds}

-- the size of the contrary
abs_neg : (x : ℤ) → nat_abs (neg_ℤ x) ≡ nat_abs x
abs_neg (pos zero) = refl
abs_neg (pos (suc n)) = refl
abs_neg (negsuc n) = refl

module _ {A : Type 0} (v : A → ℤ) where
  -- a bound whose constant is rounded up says the same
  bound_holds : (d : ℕ) (ps : List (A × ℤ)) (c : ℤ) → DividesEach d ps →
      ((sum_of_parts v ps +ℤ c) ≤ℤ pos 0) ↔ ((sum_of_parts v (divided_parts d ps) +ℤ ceiling_of c d) ≤ℤ pos 0)
  bound_holds d ps c each =
      ⊎_elim
      (λ (e : d ≡ 0).
      let same : sum_of_parts v ps +ℤ c ≡ sum_of_parts v (divided_parts d ps) +ℤ ceiling_of c d =
      subst (λ (x : ℕ). sum_of_parts v ps +ℤ c ≡ sum_of_parts v (divided_parts x ps) +ℤ ceiling_of c x) (sym e)
      (rw (undivided ps, floor_by_zero (neg_ℤ c), neg_ℤ-neg_ℤ c) refl) in
      (subst (λ (x : ℤ). x ≤ℤ pos 0) same, subst (λ (x : ℤ). x ≤ℤ pos 0) (sym same)))
      (λ (some : 0 < d).
      let sum = divided_sum v d ps some each in
      let round = floor_galois (sum_of_parts v (divided_parts d ps)) (neg_ℤ c) d some in (
        λ (h : (sum_of_parts v ps +ℤ c) ≤ℤ pos 0). let least = round.0 (omega (arith, sums)) in omega (arith, sums),
        λ (h : (sum_of_parts v (divided_parts d ps) +ℤ ceiling_of c d) ≤ℤ pos 0). let least =
            round.1 (omega (arith, sums)) in omega (arith, sums),
      ))
      (eq-zero-or-pos d)

  -- an equation whose constant isn't divided never holds
  never_holds : (d : ℕ) (ps : List (A × ℤ)) (c : ℤ) → DividesEach d ps → (nat_abs c % d == 0) ≡ false → sum_of_parts v ps +ℤ c ≡ pos 0 → ⊥
  never_holds d ps c each e h =
      let times = sum_divides v d ps each in
      let x = times.0 in
      let constant : c ≡ neg_ℤ (pos d *ℤ x) = omega (arith, sums, times.1) in
      let size : nat_abs c ≡ d * nat_abs x = ap nat_abs constant ∙ abs_neg (pos d *ℤ x) ∙ unsigned_abs-mul (pos d) x in
      let divides : d ∣ nat_abs c = subst (λ (n : ℕ). d ∣ n) (sym size) (dvd-mul_right d (nat_abs x)) in
      not_both (nat_abs c % d == 0) (eq-eqb (nat_abs c % d) 0 (mod-eq-zero_of_dvd d divides)) e

  -- what isn't a form never holds
  one_fails : HoldsAt v (one_is_zero {A = A}) → ⊥
  one_fails h = absurd (omega (arith, sums))

  -- tightened parts say the same
  tightened_by_holds : (d : ℕ) (ps : List (A × ℤ)) (c : ℤ) (kind : Kind) → DividesEach d ps →
      Satisfies kind (sum_of_parts v ps +ℤ c) ↔ HoldsAt v (tightened_by d ps c kind)
  tightened_by_holds d ps c Le each = bound_holds d ps c each
  tightened_by_holds d ps c Eq each = by (nat_abs c % d == 0) refl
    where
      by : (b : Bool) → (nat_abs c % d == 0) ≡ b →
          (sum_of_parts v ps +ℤ c ≡ pos 0) ↔ HoldsAt v
          (if b then record { parts = divided_parts d ps; constant = floor_of c d; kind = Eq } else one_is_zero)
      by true e = divided_by_holds v d ps c Eq each (dvd_of_mod-eq-zero d (eqb-true (nat_abs c % d) 0 e))
      by false e = (
        λ (h : sum_of_parts v ps +ℤ c ≡ pos 0). absurd (never_holds d ps c each e h),
        λ (h : HoldsAt v (one_is_zero {A = A})).
            absurd (one_fails h),
      )

  -- a form and its tight form say the same
  pub tighten_means : (f : Linear A) → HoldsAt v f ↔ HoldsAt v (tightened f)
  tighten_means f = by f.parts f.constant f.kind
    where
      by : (ps : List (A × ℤ)) (c : ℤ) (kind : Kind) →
          Satisfies kind (sum_of_parts v ps +ℤ c)
          ↔ HoldsAt v (if has_no_part ps then record { parts = ps; constant = c; kind = kind } else tightened_by (divisor_of_parts ps) ps c
          kind)
      by [] c kind = (λ (h : Satisfies kind (pos 0 +ℤ c)). h, λ (h : Satisfies kind (pos 0 +ℤ c)). h)
      by (p ∷ ps) c kind = tightened_by_holds (divisor_of_parts (p ∷ ps)) (p ∷ ps) c kind
          (divisor_divides (divisor_of_parts (p ∷ ps)) (p ∷ ps) (dvd_refl (divisor_of_parts (p ∷ ps))))

  -- a contradiction never holds
  pub contradictory_never : (f : Linear A) → IsTrue (is_contradictory f) → HoldsAt v f → ⊥
  contradictory_never f e = let both =
      and_parts (has_no_part f.parts) (fails f.kind f.constant) e in by f.parts f.kind f.constant both.0 both.1
    where
      by : (ps : List (A × ℤ)) (kind : Kind) (c : ℤ) → has_no_part ps ≡ true → fails kind c ≡ true →
          Satisfies kind (sum_of_parts v ps +ℤ c) → ⊥
      by [] Le (pos n) none failed h = let above = ltb-true 0 n failed in omega (arith, sums)
      by [] Le (negsuc n) none failed h = absurd cc
      by [] Eq c none failed h =
          let zero_constant : c ≡ pos 0 = omega (arith, sums) in
          let met = (Decides-int_eq c (pos 0)).1 zero_constant in
          not_false (int_eq c (pos 0)) failed met
        where
          not_false : (b : Bool) → not b ≡ true → b ≡ true → ⊥
          not_false true first second = absurd cc
          not_false false first second = absurd cc
      by (p ∷ ps) kind c none failed h = absurd cc
