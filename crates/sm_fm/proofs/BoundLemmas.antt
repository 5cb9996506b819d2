-- Whole numbers: what follows for two bounds of a value from their sum in which it cancels, and the
-- greatest of lower bounds, compared by cross products.
use Rattle.sm_fm.proofs.Imports.{◌≡◌, inl, inr, ℕ, suc, ◌*◌, ◌<◌, ℤ, pos, negsuc, neg_ℤ, nat_abs, ◌+ℤ◌, ◌*ℤ◌, ◌≤ℤ◌, ◌<ℤ◌, List, [], ◌∷◌, refl, sym, ap, subst, ◌∙◌, ⊎_elim, arith, eq-zero-or-pos, mul-pos, by_lt_z, Satisfies, Kind, Le, ring, mul_zero, zero_mul, mul_mono, satisfies_times}
use Rattle.std.specs.Int.Signed.{≤ℤ_refl}
use Rattle.sm_num.proofs.RingLemmas.{sums}
use Rattle.sm_fm.proofs.MembershipLemmas.{IsIn}

-- a number above 0 is a natural number above 0
pub above_zero : (p : ℤ) → pos 0 <ℤ p → (n : ℕ) × (0 < n) × (p ≡ pos n)
above_zero (pos n) above = (n, omega (arith, sums), refl)
above_zero (negsuc n) above = absurd (omega (arith, sums))

-- the contrary of a number below 0 is a natural number above 0
pub below_zero : (p : ℤ) → p <ℤ pos 0 → (n : ℕ) × (0 < n) × (neg_ℤ p ≡ pos n)
below_zero (pos n) below = absurd (omega (arith, sums))
below_zero (negsuc n) below = (suc n, omega arith, refl)

-- a number's square is that of its size
pub square_is : (b : ℤ) → b *ℤ b ≡ pos (nat_abs b * nat_abs b)
square_is (pos n) = refl
square_is (negsuc n) = refl

-- the square of a number's size is above 0, but for 0
pub square_some : (b : ℤ) → (b ≡ pos 0 → ⊥) → 0 < nat_abs b * nat_abs b
square_some (pos n) some = ⊎_elim (λ (e : n ≡ 0). absurd (some (ap pos e))) (λ (h : 0 < n). mul-pos h h) (eq-zero-or-pos n)
square_some (negsuc n) some = let size : 0 < suc n = omega arith in mul-pos size size

-- what holds of n times a number holds of m times another where the products by them agree
pub satisfies_across : (kind : Kind) (n m : ℕ) (x y : ℤ) → 0 < n → 0 < m → pos n *ℤ x ≡ pos m *ℤ y → Satisfies kind y → Satisfies kind x
satisfies_across kind n m x y first second same h =
    (satisfies_times kind n x first).0 (subst (Satisfies kind) (sym same) ((satisfies_times kind m y second).1 h))

-- a form with coefficient a and rest r, at a value that an equation with coefficient b and rest s gives
pub pivot_value : (kind : Kind) (p q a b r s : ℤ) → pos 0 <ℤ p → (b ≡ pos 0 → ⊥) → (p *ℤ a) +ℤ (q *ℤ b) ≡ pos 0 →
    Satisfies kind ((p *ℤ r) +ℤ (q *ℤ s)) →
    Satisfies kind ((a *ℤ neg_ℤ (b *ℤ s)) +ℤ (pos (nat_abs b * nat_abs b) *ℤ r))
pivot_value kind p q a b r s above some cancel h =
    let n = above_zero p above in
    satisfies_across kind n.0 (nat_abs b * nat_abs b) ((a *ℤ neg_ℤ (b *ℤ s)) +ℤ (pos (nat_abs b * nat_abs b) *ℤ r))
    ((p *ℤ r) +ℤ (q *ℤ s)) n.1 (square_some b some)
    (subst (λ (k : ℤ). pos n.0 *ℤ ((a *ℤ neg_ℤ (b *ℤ s)) +ℤ (k *ℤ r)) ≡ k *ℤ ((p *ℤ r) +ℤ (q *ℤ s))) (square_is b)
    (subst (λ (k : ℤ). k *ℤ ((a *ℤ neg_ℤ (b *ℤ s)) +ℤ ((b *ℤ b) *ℤ r)) ≡ (b *ℤ b) *ℤ ((p *ℤ r) +ℤ (q *ℤ s))) n.2 same)) h
  where
    product : ((p *ℤ a) +ℤ (q *ℤ b)) *ℤ (b *ℤ s) ≡ pos 0
    product = ap (λ (x : ℤ). x *ℤ (b *ℤ s)) cancel ∙ zero_mul (b *ℤ s)

    same : p *ℤ ((a *ℤ neg_ℤ (b *ℤ s)) +ℤ ((b *ℤ b) *ℤ r)) ≡ (b *ℤ b) *ℤ ((p *ℤ r) +ℤ (q *ℤ s))
    same = let none = product in let split = simp ring at none in simp ring (omega (arith, sums))

-- the equation itself holds there
pub pivot_itself : (b s : ℤ) → (b *ℤ neg_ℤ (b *ℤ s)) +ℤ (pos (nat_abs b * nat_abs b) *ℤ s) ≡ pos 0
pivot_itself b s = subst (λ (k : ℤ). (b *ℤ neg_ℤ (b *ℤ s)) +ℤ (k *ℤ s) ≡ pos 0) (square_is b) (simp ring (omega (arith, sums)))

-- products by a positive number that are ordered
pub less_across : (n : ℕ) (x y : ℤ) → 0 < n → (pos n *ℤ x) ≤ℤ (pos n *ℤ y) → x ≤ℤ y
less_across n x y some h =
    let split : pos n *ℤ (x +ℤ neg_ℤ y) ≡ (pos n *ℤ x) +ℤ neg_ℤ (pos n *ℤ y) = simp ring (omega (arith, sums)) in
    let less : (pos n *ℤ (x +ℤ neg_ℤ y)) ≤ℤ pos 0 = omega (arith, sums) in
    let out : (x +ℤ neg_ℤ y) ≤ℤ pos 0 = (satisfies_times Le n (x +ℤ neg_ℤ y) some).0 less in
    omega (arith, sums)

-- a lower bound with coefficient a and rest r, an upper bound with coefficient b and rest s: their cross products
pub bounds_cross : (p q a b r s : ℤ) → pos 0 <ℤ p → pos 0 <ℤ b → (p *ℤ a) +ℤ (q *ℤ b) ≡ pos 0 →
    ((p *ℤ r) +ℤ (q *ℤ s)) ≤ℤ pos 0 → (b *ℤ r) ≤ℤ (a *ℤ s)
bounds_cross p q a b r s first second cancel h =
    let n = above_zero p first in
    let m = above_zero b second in
    let less = mul_mono m.0 ((p *ℤ r) +ℤ (q *ℤ s)) (pos 0) h in
    let none = mul_zero (pos m.0) in
    let some : (b *ℤ ((p *ℤ r) +ℤ (q *ℤ s))) ≤ℤ pos 0 = subst (λ (x : ℤ). (x *ℤ ((p *ℤ r) +ℤ (q *ℤ s))) ≤ℤ pos 0) (sym m.2)
    (omega (arith, sums)) in
    less_across n.0 (b *ℤ r) (a *ℤ s) n.1
    (subst (λ (x : ℤ). (x *ℤ (b *ℤ r)) ≤ℤ (x *ℤ (a *ℤ s))) n.2 (ordered some))
  where
    product : ((p *ℤ a) +ℤ (q *ℤ b)) *ℤ s ≡ pos 0
    product = ap (λ (x : ℤ). x *ℤ s) cancel ∙ zero_mul s

    ordered : (b *ℤ ((p *ℤ r) +ℤ (q *ℤ s))) ≤ℤ pos 0 → (p *ℤ (b *ℤ r)) ≤ℤ (p *ℤ (a *ℤ s))
    ordered h = let none = product in let split = simp ring at none in let less = simp ring at h in omega (arith, sums)

-- cross products compare transitively, where coefficients are below 0
pub cross_trans : (a b c r s u : ℤ) → a <ℤ pos 0 → b <ℤ pos 0 → c <ℤ pos 0 → (a *ℤ s) ≤ℤ (b *ℤ r) → (b *ℤ u) ≤ℤ (c *ℤ s) →
    (a *ℤ u) ≤ℤ (c *ℤ r)
cross_trans a b c r s u below_a below_b below_c first second =
    let i = below_zero a below_a in
    let j = below_zero b below_b in
    let k = below_zero c below_c in
    let one : (neg_ℤ c *ℤ (a *ℤ s)) ≤ℤ (neg_ℤ c *ℤ (b *ℤ r)) = subst (λ (x : ℤ). (x *ℤ (a *ℤ s)) ≤ℤ (x *ℤ (b *ℤ r))) (sym k.2)
    (mul_mono k.0 (a *ℤ s) (b *ℤ r) first) in
    let two : (neg_ℤ a *ℤ (b *ℤ u)) ≤ℤ (neg_ℤ a *ℤ (c *ℤ s)) = subst (λ (x : ℤ). (x *ℤ (b *ℤ u)) ≤ℤ (x *ℤ (c *ℤ s))) (sym i.2)
    (mul_mono i.0 (b *ℤ u) (c *ℤ s) second) in
    less_across j.0 (a *ℤ u) (c *ℤ r) j.1 (subst (λ (x : ℤ). (x *ℤ (a *ℤ u)) ≤ℤ (x *ℤ (c *ℤ r))) j.2 (ordered one two))
  where
    ordered : (neg_ℤ c *ℤ (a *ℤ s)) ≤ℤ (neg_ℤ c *ℤ (b *ℤ r)) → (neg_ℤ a *ℤ (b *ℤ u)) ≤ℤ (neg_ℤ a *ℤ (c *ℤ s)) →
        (neg_ℤ b *ℤ (a *ℤ u)) ≤ℤ (neg_ℤ b *ℤ (c *ℤ r))
    ordered one two = let first = simp ring at one in let second = simp ring at two in simp ring (omega (arith, sums))

module _ {X : Type 0} (c r : X → ℤ) where
  -- the greatest of bounds whose coefficients are below 0
  pub record Greatest (xs : List X) : Type 0 where
    pub best : X
    pub stands : IsIn best xs
    pub above : (y : X) → IsIn y xs → (c y *ℤ r best) ≤ℤ (c best *ℤ r y)

  pub greatest : (x : X) (xs : List X) → ((y : X) → IsIn y (x ∷ xs) → c y <ℤ pos 0) → Greatest (x ∷ xs)
  greatest x [] below = record {
    best = x;
    stands = inl refl;
    above = λ (y : X) (is : IsIn y (x ∷ [])). ⊎_elim
        (λ (same : y ≡ x). subst (λ (z : X). (c z *ℤ r x) ≤ℤ (c x *ℤ r z)) (sym same) (≤ℤ_refl (c x *ℤ r x)))
        (λ (none : ⊥). absurd none) is;
  }
  greatest x (y ∷ ys) below = by (greatest y ys (λ (z : X) (is : IsIn z (y ∷ ys)). below z (inr is)))
    where
      by : Greatest (y ∷ ys) → Greatest (x ∷ (y ∷ ys))
      by g =
          by_lt_z (c x *ℤ r g.best) (c g.best *ℤ r x)
          (λ (less : (c x *ℤ r g.best) <ℤ (c g.best *ℤ r x)). record {
            best = g.best;
            stands = inr g.stands;
            above = λ (z : X) (is : IsIn z (x ∷ (y ∷ ys))). ⊎_elim
                (λ (same : z ≡ x). subst (λ (w : X). (c w *ℤ r g.best) ≤ℤ (c g.best *ℤ r w)) (sym same) (omega (arith, sums)))
                (g.above z) is;
          })
          (λ (more : (c g.best *ℤ r x) ≤ℤ (c x *ℤ r g.best)). record {
            best = x;
            stands = inl refl;
            above = λ (z : X) (is : IsIn z (x ∷ (y ∷ ys))). ⊎_elim
                (λ (same : z ≡ x). subst (λ (w : X). (c w *ℤ r x) ≤ℤ (c x *ℤ r w)) (sym same) (≤ℤ_refl (c x *ℤ r x)))
                (λ (there : IsIn z (y ∷ ys)).
                cross_trans (c z) (c g.best) (c x) (r z) (r g.best) (r x) (below z is) (below g.best (inr g.stands)) (below x (inl refl))
                (g.above z there) more)
                is;
          })
