-- Greatest common divisors: one step and the end of Euclid's algorithm, and bounds.
use Rattle.sm_num.proofs.Imports.{◌≡◌, ℕ, zero, suc, ◌<◌, ◌≤◌, ◌%◌, refl, arith, IsGcd-from_zero, IsGcd-from_mod, same_from_IsGcd, le_of_dvd, gcd}
use Rattle.std.proofs.Math.Nat.{pos_of_dvd_of_pos}
use Rattle.sm_num.proofs.DivisionLemmas.{gcd_is}

-- one step
pub gcd-step : (a b : ℕ) → gcd a b ≡ gcd b (a % b)
gcd-step a b = same_from_IsGcd a b (gcd a b) (gcd b (a % b)) (gcd_is a b) (IsGcd-from_mod a b (gcd b (a % b)) (gcd_is b (a % b)))

-- the end
pub gcd-zero : (a b : ℕ) → b ≡ 0 → gcd a b ≡ a
gcd-zero a b none = same_from_IsGcd a b (gcd a b) a (gcd_is a b) (IsGcd-from_zero a b none)

-- it is no greater than a part that isn't 0
gcd-le_left : (a b : ℕ) → 0 < a → gcd a b ≤ a
gcd-le_left a b some = le_of_dvd some (gcd_is a b).0

gcd-le_right : (a b : ℕ) → 0 < b → gcd a b ≤ b
gcd-le_right a b some = le_of_dvd some (gcd_is a b).1

-- it is below what both parts are below
pub gcd_below : (a b n : ℕ) → a < n → b < n → gcd a b < n
gcd_below zero zero n first second = let same = gcd-zero 0 0 refl in omega arith
gcd_below zero (suc b) n first second = let le = gcd-le_right 0 (suc b) (omega arith) in omega arith
gcd_below (suc a) b n first second = let le = gcd-le_left (suc a) b (omega arith) in omega arith

-- it isn't 0 where the first isn't
pub gcd_is_some : (a b : ℕ) → 0 < a → 0 < gcd a b
gcd_is_some a b some = pos_of_dvd_of_pos (gcd_is a b).0 some
