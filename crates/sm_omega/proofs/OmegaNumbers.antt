-- Whole numbers: both lemmas of the Omega test, bounds that are rounded, and the greatest and the
-- least of numbers.
use Rattle.sm_omega.proofs.Imports.{◌≡◌, ◌⊎◌, inl, inr, ℕ, zero, suc, ◌<◌, ℤ, pos, negsuc, neg_ℤ, ◌+ℤ◌, ◌-ℤ◌, ◌*ℤ◌, ◌≤ℤ◌, ◌<ℤ◌, Bool, true, false, not, ◌&&◌, if◌then◌else◌, List, [], ◌∷◌, refl, ⊎_elim, arith, int_eq, is_negative, floor_of, ceiling_of, sums, ring, mul_zero, mul-neg_right, mul_mono, floor_galois, floor_bounds, bound_from, greatest_of, greatest, least_of, least}
use Rattle.std.specs.Prelude.{int_lt}
use lib.IntN.{*ℤ_comm}
use Rattle.std.proofs.lemmas.Int.{by_lt_z, ints}
use Rattle.sm_omega.proofs.Predicates.{EachOf}

-- products by a number that isn't below 0 are ordered as the numbers are
pub times_mono : (a x y : ℤ) → pos 0 ≤ℤ a → x ≤ℤ y → (a *ℤ x) ≤ℤ (a *ℤ y)
times_mono (pos n) x y some less = mul_mono n x y less
times_mono (negsuc n) x y some less = absurd (omega (arith, sums))

-- a whole number is at most another or more than it
pub ordered : (x y : ℤ) → (x ≤ℤ y) ⊎ (y <ℤ x)
ordered x y = by_lt_z {P = (x ≤ℤ y) ⊎ (y <ℤ x)} y x inr inl

-- a value of t that exceeds its lower bound by less than a step satisfies an upper bound, where the
-- dark shadow of both holds
pub dark_serves : (a b r s t : ℤ) → pos 0 <ℤ a → pos 0 <ℤ b → (b *ℤ t) ≤ℤ (r +ℤ (b -ℤ pos 1)) →
    (((a *ℤ r) +ℤ (b *ℤ s)) +ℤ ((a -ℤ pos 1) *ℤ (b -ℤ pos 1))) ≤ℤ pos 0 → ((a *ℤ t) +ℤ s) ≤ℤ pos 0
dark_serves a b r s t first second near dark =
    ⊎_elim (λ (least : ((a *ℤ t) +ℤ s) ≤ℤ pos 0). least)
    (λ (above : pos 0 <ℤ ((a *ℤ t) +ℤ s)).
    let more : pos 1 ≤ℤ ((a *ℤ t) +ℤ s) = omega (arith, sums) in
    let times = times_mono b (pos 1) ((a *ℤ t) +ℤ s) (omega (arith, sums)) more in
    let bound = times_mono a (b *ℤ t) (r +ℤ (b -ℤ pos 1)) (omega (arith, sums)) near in
    let one = simp ring at times in
    let two = simp ring at bound in
    let three = simp ring at dark in
    absurd (omega (arith, sums)))
    (ordered ((a *ℤ t) +ℤ s) (pos 0))

-- a form of a number of splinters
abbrev pub IsNearBy : ℤ → ℤ → ℤ → Type 0
IsNearBy m b i = (pos 0 ≤ℤ i) × ((m *ℤ i) ≤ℤ (((m *ℤ b) -ℤ m) -ℤ b))

-- where both bounds hold and their dark shadow doesn't, t is near to its lower bound
pub splinter_serves : (a b m r s t : ℤ) → pos 0 <ℤ a → a ≤ℤ m → pos 0 <ℤ b → r ≤ℤ (b *ℤ t) → ((a *ℤ t) +ℤ s) ≤ℤ pos 0 →
    pos 0 <ℤ (((a *ℤ r) +ℤ (b *ℤ s)) +ℤ ((a -ℤ pos 1) *ℤ (b -ℤ pos 1))) → IsNearBy m b ((b *ℤ t) -ℤ r)
splinter_serves a b m r s t first most second lower upper bright =
    let i = (b *ℤ t) -ℤ r in
    let k = (b -ℤ pos 1) -ℤ i in
    let times = times_mono b ((a *ℤ t) +ℤ s) (pos 0) (omega (arith, sums)) upper in
    let one = simp ring at times in
    let two = simp ring at bright in
    let steps : b ≤ℤ (a *ℤ k) = simp ring (omega (arith, sums)) in
    let some : pos 0 ≤ℤ k =
    ⊎_elim (λ (low : k ≤ℤ pos 0). let below = times_mono a k (pos 0) (omega (arith, sums)) low in
    let none = mul_zero a in absurd (omega (arith, sums))) (λ (high : pos 0 <ℤ k). omega (arith, sums)) (ordered k (pos 0)) in
    let wider : (k *ℤ a) ≤ℤ (k *ℤ m) = times_mono k a m some most in
    let enough : b ≤ℤ (m *ℤ k) = widened a m b k steps wider in
    (omega (arith, sums), last m b i enough)
  where
    widened : (a m b k : ℤ) → b ≤ℤ (a *ℤ k) → (k *ℤ a) ≤ℤ (k *ℤ m) → b ≤ℤ (m *ℤ k)
    widened a m b k steps wider = let one = *ℤ_comm a k in let two = *ℤ_comm m k in omega (arith, sums)

    last : (m b i : ℤ) → b ≤ℤ (m *ℤ ((b -ℤ pos 1) -ℤ i)) → (m *ℤ i) ≤ℤ (((m *ℤ b) -ℤ m) -ℤ b)
    last m b i h = let one = simp ring at h in omega (arith, sums)

-- a number that is at most d times another is at most d times its quotient rounded up, and by less than d
pub ceiling_above : (z : ℤ) (d : ℕ) → 0 < d → z ≤ℤ (pos d *ℤ ceiling_of z d)
ceiling_above z d some =
    let bounds = floor_bounds (neg_ℤ z) d some in
    let turned = mul-neg_right (pos d) (floor_of (neg_ℤ z) d) in
    omega (arith, sums, bounds.0)

pub ceiling_near : (z : ℤ) (d : ℕ) → 0 < d → (pos d *ℤ ceiling_of z d) ≤ℤ (z +ℤ (pos d -ℤ pos 1))
ceiling_near z d some =
    let bounds = floor_bounds (neg_ℤ z) d some in
    let turned = mul-neg_right (pos d) (floor_of (neg_ℤ z) d) in
    omega (arith, sums, bounds.1)

-- a coefficient below 0 gives a lower bound: what is at least the bound satisfies it
pub lower_met : (a r z : ℤ) → is_negative a ≡ true → bound_from a r ≤ℤ z → ((a *ℤ z) +ℤ r) ≤ℤ pos 0
lower_met (pos n) r z e least = absurd cc
lower_met (negsuc n) r z e least =
    let some : 0 < suc n = omega arith in
    let times = mul_mono (suc n) (ceiling_of r (suc n)) z least in
    let above = ceiling_above r (suc n) some in
    let turned : negsuc n *ℤ z ≡ neg_ℤ (pos (suc n) *ℤ z) = mul_turned (pos (suc n)) z in
    omega (arith, sums)
  where
    mul_turned : (y z : ℤ) → neg_ℤ y *ℤ z ≡ neg_ℤ (y *ℤ z)
    mul_turned y z = simp ring (omega (arith, sums))

-- the lower bound, times its coefficient's size, is above the rest by less than this size
pub lower_near : (a r : ℤ) → is_negative a ≡ true → (neg_ℤ a *ℤ bound_from a r) ≤ℤ (r +ℤ (neg_ℤ a -ℤ pos 1))
lower_near (pos n) r e = absurd cc
lower_near (negsuc n) r e = ceiling_near r (suc n) (omega arith)

-- a coefficient above 0 gives an upper bound: what is at most the bound satisfies it
pub upper_met : (a r z : ℤ) → pos 0 <ℤ a → z ≤ℤ bound_from a r → ((a *ℤ z) +ℤ r) ≤ℤ pos 0
upper_met (pos n) r z some most =
    let size : 0 < n = omega (arith, sums) in
    let times = (floor_galois z (neg_ℤ r) n size).1 most in
    omega (arith, sums)
upper_met (negsuc n) r z some most = absurd (omega (arith, sums))

pub other_above : (z : ℤ) → (not (int_eq z (pos 0)) && not (is_negative z)) ≡ true → pos 0 <ℤ z
other_above (pos zero) e = absurd cc
other_above (pos (suc n)) e = omega (arith, sums)
other_above (negsuc n) e = absurd cc

-- something is so of the greatest of numbers where it is so of each
pub greatest_of_has : (P : ℤ → Type 0) (z : ℤ) (ys : List ℤ) → P z → EachOf P ys → P (greatest_of z ys)
greatest_of_has P z [] here each = here
greatest_of_has P z (y ∷ ys) here each = greatest_of_has P (if int_lt z y then y else z) ys (by (int_lt z y)) each.1
  where
    by : (b : Bool) → P (if b then y else z)
    by true = each.0
    by false = here

pub greatest_has : (P : ℤ → Type 0) (z : ℤ) (zs : List ℤ) → EachOf P (z ∷ zs) → P (greatest (z ∷ zs))
greatest_has P z zs each = greatest_of_has P z zs each.0 each.1

-- each number is at most the greatest
greatest_step : (z y : ℤ) → (z ≤ℤ (if int_lt z y then y else z)) × (y ≤ℤ (if int_lt z y then y else z))
greatest_step z y = by (int_lt z y) refl
  where
    by : (b : Bool) → int_lt z y ≡ b → (z ≤ℤ (if b then y else z)) × (y ≤ℤ (if b then y else z))
    by true e = (omega (arith, ints), omega (arith, ints))
    by false e = (omega (arith, ints), omega (arith, ints))

greatest_of_first : (z : ℤ) (ys : List ℤ) → z ≤ℤ greatest_of z ys
greatest_of_first z [] = omega (arith, sums)
greatest_of_first z (y ∷ ys) =
    let step = greatest_step z y in
    let rest = greatest_of_first (if int_lt z y then y else z) ys in
    omega (arith, sums, step.0)

greatest_of_each : (z : ℤ) (ys : List ℤ) → EachOf (λ (y : ℤ). y ≤ℤ greatest_of z ys) ys
greatest_of_each z [] = tt
greatest_of_each z (y ∷ ys) =
    let step = greatest_step z y in
    let rest = greatest_of_first (if int_lt z y then y else z) ys in
    (omega (arith, sums, step.1), greatest_of_each (if int_lt z y then y else z) ys)

pub greatest_above : (zs : List ℤ) → EachOf (λ (z : ℤ). z ≤ℤ greatest zs) zs
greatest_above [] = tt
greatest_above (z ∷ zs) = (greatest_of_first z zs, greatest_of_each z zs)

-- the least is at most each number
least_step : (z y : ℤ) → ((if int_lt y z then y else z) ≤ℤ z) × ((if int_lt y z then y else z) ≤ℤ y)
least_step z y = by (int_lt y z) refl
  where
    by : (b : Bool) → int_lt y z ≡ b → ((if b then y else z) ≤ℤ z) × ((if b then y else z) ≤ℤ y)
    by true e = (omega (arith, ints), omega (arith, ints))
    by false e = (omega (arith, ints), omega (arith, ints))

least_of_first : (z : ℤ) (ys : List ℤ) → least_of z ys ≤ℤ z
least_of_first z [] = omega (arith, sums)
least_of_first z (y ∷ ys) =
    let step = least_step z y in
    let rest = least_of_first (if int_lt y z then y else z) ys in
    omega (arith, sums, step.0)

least_of_each : (z : ℤ) (ys : List ℤ) → EachOf (λ (y : ℤ). least_of z ys ≤ℤ y) ys
least_of_each z [] = tt
least_of_each z (y ∷ ys) =
    let step = least_step z y in
    let rest = least_of_first (if int_lt y z then y else z) ys in
    (omega (arith, sums, step.1), least_of_each (if int_lt y z then y else z) ys)

pub least_below : (zs : List ℤ) → EachOf (λ (z : ℤ). least zs ≤ℤ z) zs
least_below [] = tt
least_below (z ∷ zs) = (least_of_first z zs, least_of_each z zs)
