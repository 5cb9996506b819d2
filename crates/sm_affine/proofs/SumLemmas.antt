-- The sum of an equality's parts, one after the other.
use Rattle.std.proofs.Common.{◌≡◌, ℕ, ◌+◌, ◌<◌, ℤ, pos, ◌+ℤ◌, ◌*ℤ◌, List, length, get_or, drop, sym, ap, ◌∙◌, arith}
use Rattle.std.proofs.lemmas.Int.{ints}
use Rattle.std.proofs.lemmas.List.{at_drop_more}
use Rattle.sm_num.specs.Forms.{sum_of_parts}
use Rattle.sm_affine.specs.declared.equality.Part.{Part}
use Rattle.sm_affine.specs.Equalities.{columns_of}

-- the part at a place
abbrev pub part_at : List Part → ℕ → Part
part_at parts i = get_or parts i (record { column = 0; coefficient = pos 0 })

move : (x r s : ℤ) → (x +ℤ r) +ℤ s ≡ r +ℤ (s +ℤ x)
move x r s = omega (arith, ints)

nothing_left : (s : ℤ) → pos 0 +ℤ s ≡ s
nothing_left s = omega (arith, ints)

-- a part goes from those that are left to the sum so far
pub sum_more :
    (v : ℕ → ℤ) (parts : List Part) (i : ℕ) (whole sum next : ℤ) → i < length parts →
    whole ≡ sum_of_parts v (columns_of (drop i parts)) +ℤ sum →
    next ≡ sum +ℤ ((part_at parts i).coefficient *ℤ v (part_at parts i).column) →
    whole ≡ sum_of_parts v (columns_of (drop (i + 1) parts)) +ℤ next
sum_more v parts i whole sum next within so_far added =
    let d : Part = record { column = 0; coefficient = pos 0 } in
    let product : ℤ = (part_at parts i).coefficient *ℤ v (part_at parts i).column in
    let rest : ℤ = sum_of_parts v (columns_of (drop (i + 1) parts)) in
    let here : sum_of_parts v (columns_of (drop i parts)) ≡ product +ℤ rest =
    at_drop_more (λ (ps : List Part). sum_of_parts v (columns_of ps)) parts i d within in
    so_far ∙ ap (λ (z : ℤ). z +ℤ sum) here ∙ move product rest sum ∙ ap (λ (z : ℤ). rest +ℤ z) (sym added)
