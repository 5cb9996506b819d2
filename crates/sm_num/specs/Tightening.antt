-- Cited by public clauses: forms over whole numbers made tight, and contradictions.
use Rattle.std.specs.Prelude.{ℕ, ◌%◌, ◌==◌, nat_lt, ℤ, pos, negsuc, nat_abs, Bool, true, false, ◌&&◌, not, if◌then◌else◌, List, [], ◌∷◌}
use Rattle.std.specs.Ordering.{int_eq}
use Rattle.sm_num.specs.Forms.{Linear, Kind, Le, Eq}
use Rattle.sm_num.specs.Eliminating.{floor_of, ceiling_of, divisor_of_parts, divided_parts}

-- whether there is no part
abbrev pub has_no_part : {A : Type 0} → List (A × ℤ) → Bool
has_no_part [] = true
has_no_part (p ∷ ps) = false

-- the form that says 1 is 0
abbrev pub one_is_zero : {A : Type 0} → Linear A
one_is_zero = record { parts = []; constant = pos 1; kind = Eq }

-- parts divided by d, which divides them, with a constant and a kind: of a sum that is at most 0
-- the constant is rounded up, and a sum can be 0 only where d divides the constant
abbrev pub tightened_by : {A : Type 0} → ℕ → List (A × ℤ) → ℤ → Kind → Linear A
tightened_by d ps c Le =
    record { parts = divided_parts d ps; constant = ceiling_of c d; kind = Le }
tightened_by d ps c Eq =
    if nat_abs c % d == 0 then
    record { parts = divided_parts d ps; constant = floor_of c d; kind = Eq }
    else one_is_zero

-- what a form says of whole numbers, with coefficients that have no common divisor
abbrev pub tightened : {A : Type 0} → Linear A → Linear A
tightened f =
    if has_no_part f.parts then f
    else tightened_by (divisor_of_parts f.parts) f.parts f.constant f.kind

-- whether a number is not as a kind says
abbrev pub fails : Kind → ℤ → Bool
fails Le (pos n) = nat_lt 0 n
fails Le (negsuc n) = false
fails Eq z = not (int_eq z (pos 0))

-- a form without parts that doesn't hold
abbrev pub is_contradictory : {A : Type 0} → Linear A → Bool
is_contradictory f = has_no_part f.parts && fails f.kind f.constant
