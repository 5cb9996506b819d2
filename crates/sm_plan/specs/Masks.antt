-- Cited by public clauses: sets of copies as the masks of a proof, in which each copy has its bit.
use Rattle.std.specs.Prelude.{ℕ, ◌+◌, ◌==◌, bit_and, Bool, if◌then◌else◌}
use Rattle.sm_syntax.specs.claim.ConflictFree.{Copy}
use Rattle.sm_syntax.specs.text.Parts.{by_copy}
use Rattle.sm_plan.specs.Copies.{Copies, copies_that}

-- the bit of a copy
abbrev pub bit_of : Copy → ℕ
bit_of c = by_copy 1 2 4 8 c

-- the set whose copies' bits are set
abbrev pub set_of : ℕ → Copies
set_of mask = copies_that (λ (c : Copy). bit_and mask (bit_of c) == bit_of c)

-- the number that a bit counts for
abbrev pub bit_where : Bool → ℕ → ℕ
bit_where b bit = if b then bit else 0

-- the mask of a set
abbrev pub mask_of : Copies → ℕ
mask_of set =
    bit_where set.base 1 + bit_where set.variant_a 2 + bit_where set.variant_b 4
    + bit_where set.candidate 8
