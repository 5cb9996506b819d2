-- Products of whole numbers: they associate and go through sums. With the rulesets that prove
-- identities of rings: `simp ring (omega (arith, sums))`.
use Rattle.std.proofs.Common.{◌≡◌, ℕ, ◌+◌, ◌*◌, ℤ, pos, neg_ℤ, ◌+ℤ◌, ◌*ℤ◌, ap, ◌∙◌, arith}
use lib.IntN.{*ℤ_comm}
use borrow.Author.Differences.{up, down, same_out, same_in, lt_out, le_out, below_in, at_most_in, sum_is_lem, neg_is, product_is}

-- the two parts of a product
up_product : (a b : ℤ) → up (a *ℤ b) ≡ up a * up b + down a * down b
up_product a b = (product_is a b).0

down_product : (a b : ℤ) → down (a *ℤ b) ≡ up a * down b + down a * up b
down_product a b = (product_is a b).1

-- sums, differences and orders of whole numbers, for `omega`
pub ruleset sums = (same_out, same_in, lt_out, le_out, below_in, at_most_in, sum_is_lem, neg_is)

-- products associate
pub mul_assoc : (a b c : ℤ) → (a *ℤ b) *ℤ c ≡ a *ℤ (b *ℤ c)
mul_assoc a b c = same_in _ _ (simp (up_product, down_product) (omega arith))

-- the first two factors of a product of three change places
pub mul_left_comm : (a b c : ℤ) → a *ℤ (b *ℤ c) ≡ b *ℤ (a *ℤ c)
mul_left_comm a b c = same_in _ _ (simp (up_product, down_product) (omega arith))

-- a product goes through a sum
pub mul-add_right : (a b c : ℤ) → a *ℤ (b +ℤ c) ≡ (a *ℤ b) +ℤ (a *ℤ c)
mul-add_right a b c =
    let s = sum_is_lem b c in
    let above : up a * (up (b +ℤ c) + down b + down c) ≡ up a * (down (b +ℤ c) + up b + up c) = ap (λ (x : ℕ). up a * x) s in
    let below : down a * (up (b +ℤ c) + down b + down c) ≡ down a * (down (b +ℤ c) + up b + up c) = ap (λ (x : ℕ). down a * x) s in
    omega (arith, same_in, sum_is_lem, product_is)

-- from either side
pub mul-add_left : (a b c : ℤ) → (a +ℤ b) *ℤ c ≡ (a *ℤ c) +ℤ (b *ℤ c)
mul-add_left a b c = *ℤ_comm (a +ℤ b) c ∙ mul-add_right c a b ∙ ap (λ (x : ℤ). x +ℤ (c *ℤ b)) (*ℤ_comm c a)
    ∙ ap (λ (x : ℤ). (a *ℤ c) +ℤ x) (*ℤ_comm c b)

-- the contrary of a factor
pub mul-neg_right : (a b : ℤ) → a *ℤ neg_ℤ b ≡ neg_ℤ (a *ℤ b)
mul-neg_right a b =
    let e = neg_is b in
    let p = neg_is (a *ℤ b) in
    same_in _ _ (simp (up_product, down_product, e.0, e.1, p.0, p.1) (omega arith))

pub mul-neg_left : (a b : ℤ) → neg_ℤ a *ℤ b ≡ neg_ℤ (a *ℤ b)
mul-neg_left a b = *ℤ_comm (neg_ℤ a) b ∙ mul-neg_right b a ∙ ap neg_ℤ (*ℤ_comm b a)

-- 1 and 0 as factors
pub one_mul : (a : ℤ) → pos 1 *ℤ a ≡ a
one_mul a = omega (arith, same_in, product_is)

pub mul_one : (a : ℤ) → a *ℤ pos 1 ≡ a
mul_one a = omega (arith, same_in, product_is)

pub zero_mul : (a : ℤ) → pos 0 *ℤ a ≡ pos 0
zero_mul a = omega (arith, same_in, product_is)

pub mul_zero : (a : ℤ) → a *ℤ pos 0 ≡ pos 0
mul_zero a = omega (arith, same_in, product_is)

-- products taken apart and put in order
pub ruleset ring = (
  mul-add_right,
  mul-add_left,
  mul_assoc,
  mul_left_comm,
  mul-neg_right,
  mul-neg_left,
  one_mul,
  mul_one,
  zero_mul,
  mul_zero,
  *ℤ_comm,
)

-- an identity of rings, to see that the rulesets serve
square : (a b c : ℤ) → (a +ℤ b) *ℤ (a +ℤ neg_ℤ c) ≡ (a *ℤ a) +ℤ ((b *ℤ a) +ℤ (neg_ℤ (a *ℤ c) +ℤ neg_ℤ (b *ℤ c)))
square a b c = simp ring (omega (arith, sums))
