-- Cited by public clauses: operations on whole numbers, and the two ranges: 128 bits, and that of
-- linear forms.
use Rattle.std.specs.Prelude.{suc, ◌^◌, ℤ, pos, negsuc, ◌+ℤ◌, ◌-ℤ◌, ◌*ℤ◌, Bool, nat_lt, if◌then◌else◌, Option, Some, None}
use Rattle.sm_num.specs.declared.op.Op.{Op}
use Rattle.sm_num.specs.declared.op.Op.TheVariants.{Add, Sub, Mul}

-- from -2^127 to 2^127 - 1
abbrev pub fits : ℤ → Bool
fits (pos n) = nat_lt n (2 ^ 127)
fits (negsuc n) = nat_lt n (2 ^ 127)

-- the number where it lies in 128 bits
abbrev pub inside : ℤ → Option ℤ
inside z = if fits z then Some z else None

-- the exact result of an operation
abbrev pub exact : Op → ℤ → ℤ → ℤ
exact Add y z = y +ℤ z
exact Sub y z = y -ℤ z
exact Mul y z = y *ℤ z

-- from -(2^127 - 1) to 2^127 - 1
abbrev pub fits_form : ℤ → Bool
fits_form (pos n) = nat_lt n (2 ^ 127)
fits_form (negsuc n) = nat_lt (suc n) (2 ^ 127)
