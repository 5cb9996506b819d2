-- Sets of copies as masks, by their sixteen cases.
use Rattle.sm_plan.proofs.Imports.{◌≡◌, ℕ, ◌==◌, bit_and, Bool, true, false, map, refl, filter, range_with_len, Copies, subsets, mask_of, set_of}

-- the subsets of a set have ascending masks
pub subsets_ascend : (set : Copies) → map mask_of (subsets set) ≡ filter (λ (v : ℕ). bit_and v (mask_of set) == v) (range_with_len 1 15)
subsets_ascend set = at set.base set.variant_a set.variant_b set.candidate
  where
    at : (o a b m : Bool) →
        map mask_of (subsets (record { base = o; variant_a = a; variant_b = b; candidate = m })) ≡ filter
        (λ (v : ℕ). bit_and v (mask_of (record { base = o; variant_a = a; variant_b = b; candidate = m })) == v) (range_with_len 1 15)
    at false false false false = refl
    at true false false false = refl
    at false true false false = refl
    at true true false false = refl
    at false false true false = refl
    at true false true false = refl
    at false true true false = refl
    at true true true false = refl
    at false false false true = refl
    at true false false true = refl
    at false true false true = refl
    at true true false true = refl
    at false false true true = refl
    at true false true true = refl
    at false true true true = refl
    at true true true true = refl

-- a set is that of its mask
pub mask_exact : (set : Copies) → set_of (mask_of set) ≡ set
mask_exact set = at set.base set.variant_a set.variant_b set.candidate
  where
    at : (o a b m : Bool)
        → set_of (mask_of (record { base = o; variant_a = a; variant_b = b; candidate = m }))
        ≡ record { base = o; variant_a = a; variant_b = b; candidate = m }
    at false false false false = refl
    at true false false false = refl
    at false true false false = refl
    at true true false false = refl
    at false false true false = refl
    at true false true false = refl
    at false true true false = refl
    at true true true false = refl
    at false false false true = refl
    at true false false true = refl
    at false true false true = refl
    at true true false true = refl
    at false false true true = refl
    at true false true true = refl
    at false true true true = refl
    at true true true true = refl
