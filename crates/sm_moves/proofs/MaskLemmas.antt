-- Masks of four bits, one by one.
use Rattle.sm_moves.proofs.Imports.{◌≡◌, ℕ, zero, suc, ◌+◌, ◌-◌, ◌==◌, ◌<◌, ◌≤◌, bit_and, Bool, true, false, not, ◌&&◌, ◌||◌, refl, ap, ◌∙◌, arith, and_parts, Copy, Copies, each, has, is_inhabited, set_of, each_true}
use Rattle.sm_moves.proofs.SetsLemmas.{IsWithin}

-- a test holds of all numbers below one
abbrev all_below : ℕ → (ℕ → Bool) → Bool
all_below zero test = true
all_below (suc n) test = test zero && all_below n (λ (k : ℕ). test (suc k))

below : (n : ℕ) (test : ℕ → Bool) → all_below n test ≡ true → (m : ℕ) → m < n → test m ≡ true
below zero test e m h = absurd (omega arith)
below (suc n) test e zero h = (and_parts (test zero) (all_below n (λ (k : ℕ). test (suc k))) e).0
below (suc n) test e (suc m) h =
    below n (λ (k : ℕ). test (suc k)) (and_parts (test zero) (all_below n (λ (k : ℕ). test (suc k))) e).1 m (omega arith)

-- whether the copies of a set are in another
abbrev is_within : Copies → Copies → Bool
is_within v set = each (λ (c : Copy). not (has v c) || has set c)

within_by : (v set : Copies) → is_within v set ≡ true → IsWithin v set
within_by v set e c h = by (has v c) (has set c) (each_true (λ (d : Copy). not (has v d) || has set d) e c) h
  where
    by : (a b : Bool) → (not a || b) ≡ true → a ≡ true → b ≡ true
    by true b g i = g
    by false b g i = absurd cc

-- a mask whose bits are among those of another
part_of : ℕ → ℕ → Bool
part_of m set = not (bit_and m set == m) || is_within (set_of m) (set_of set)

all_parts : all_below 16 (λ (m : ℕ). all_below 16 (part_of m)) ≡ true
unfolding part_of
all_parts = refl

pub mask_within : (m set : ℕ) → m ≤ 15 → set ≤ 15 → (bit_and m set == m) ≡ true → IsWithin (set_of m) (set_of set)
unfolding part_of
mask_within m set h g e =
    within_by (set_of m) (set_of set)
    (by (bit_and m set == m) e
    (below 16 (part_of m) (below 16 (λ (n : ℕ). all_below 16 (part_of n)) all_parts m (omega arith)) set (omega arith)))
  where
    by : (b : Bool) → b ≡ true → (not b || is_within (set_of m) (set_of set)) ≡ true → is_within (set_of m) (set_of set) ≡ true
    by true i p = p
    by false i p = absurd cc

-- a mask with a bit
all_inhabited : all_below 15 (λ (m : ℕ). is_inhabited (set_of (m + 1))) ≡ true
all_inhabited = refl

pub mask_inhabited : (m : ℕ) → 1 ≤ m → m ≤ 15 → is_inhabited (set_of m) ≡ true
mask_inhabited m some h =
    let here : m ≡ (m - 1) + 1 = omega arith in
    ap (λ (n : ℕ). is_inhabited (set_of n)) here
    ∙ below 15 (λ (n : ℕ). is_inhabited (set_of (n + 1))) all_inhabited (m - 1) (omega arith)
