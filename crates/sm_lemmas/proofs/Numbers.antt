-- Sums of numbers, and digits without a sign.
use Rattle.std.proofs.Common.{◌≡◌, ◌<◌, ◌≤◌, ◌-◌, ℕ, ◌⊎◌, inl, inr, arith, ◌+◌, ◌*◌, false, List, [], ◌∷◌, length, Bool, cond, drop, ap, suc, ◌/◌, ◌∙◌}
use Rattle.std.proofs.lemmas.Bool.{cases_eq, cases_lt, ne_eqb}
use Rattle.std.proofs.Math.Nat.{mul-le-mul_left}
use Rattle.std.proofs.lemmas.Str.Parse.{digit_from_value}
use Rattle.std.specs.Str.Parse.{AllDigits, starts_with_minus, without_leading_plus, without_leading_sign}

-- a place is before another, that one, or after it
pub order : (q p : ℕ) → (q < p) ⊎ ((q ≡ p) ⊎ (p < q))
order q p = by (cases_lt q p) (cases_eq q p)
  where
    by : ((q < p) ⊎ (p ≤ q)) → ((q ≡ p) ⊎ (q ≡ p → ⊥)) → (q < p) ⊎ ((q ≡ p) ⊎ (p < q))
    by (inl before) other = inl before
    by (inr after) (inl same) = inr (inl same)
    by (inr after) (inr differs) = inr (inr (omega arith))

-- fewer rounds are fewer, whatever is left of one
pub rounds_less : (m n t x y : ℕ) → m + 1 ≡ n → x ≤ t → m * (t + 1) + x < n * (t + 1) + y
rounds_less m n t x y e h =
    let more : (t + 1) * (m + 1) ≤ (t + 1) * n = mul-le-mul_left (t + 1) (omega arith) in
    grind (arith, more)

-- digits begin with no sign
pub no_minus : (ds : List ℕ) → AllDigits 10 ds → 0 < length ds → starts_with_minus ds ≡ false
no_minus [] d some = absurd (omega arith)
no_minus (c ∷ cs) d some = ne_eqb c 45 (λ (e : c ≡ 45). omega (arith, digit_from_value c d.0))

-- digits begin with no plus
pub no_plus : (ds : List ℕ) → AllDigits 10 ds → 0 < length ds → without_leading_plus ds ≡ ds
no_plus [] d some = absurd (omega arith)
no_plus (c ∷ cs) d some =
    ap (λ (b : Bool). drop (cond b 1 0) (c ∷ cs)) (ne_eqb c 43 (λ (e : c ≡ 43). omega (arith, digit_from_value c d.0)))

-- each half of what is at most a number and one more is at most the number
pub half_less : (n m : ℕ) → suc (suc n) ≤ suc m → (suc (suc n) / 2 ≤ m) × (suc (suc n) - suc (suc n) / 2 ≤ m)
half_less n m h = (omega arith, omega arith)

-- a sum is less where its last part is
pub sum_less : (m p q : ℕ) → p < q → m + p < m + q
sum_less m p q h = omega arith

-- digits are what is left of them without a sign
pub unsigned : (ds : List ℕ) → AllDigits 10 ds → 0 < length ds → without_leading_sign ds ≡ ds
unsigned ds d some = ap (λ (b : Bool). cond b (drop 1 ds) (without_leading_plus ds)) (no_minus ds d some) ∙ no_plus ds d some
