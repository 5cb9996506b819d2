-- Cited by public clauses: the variable that is taken, the forms in which it stands, and the value
-- that it gets from a solution of the rest.
use Rattle.std.specs.Prelude.{ℕ, ◌==◌, nat_lt, ℤ, pos, int_lt, neg_ℤ, nat_abs, Bool, ◌&&◌, not, if◌then◌else◌, Option, Some, None, List, [], ◌∷◌}
use Rattle.std.specs.List.{filter}
use Rattle.std.specs.Ordering.{int_eq}
use Rattle.sm_num.specs.Forms.{Linear, coefficient, without}
use Rattle.sm_num.specs.FormLaws.{same_atom}
use Rattle.sm_num.specs.Combining.{Outcome, Fits, then_with, computed}
use Rattle.sm_num.specs.declared.op.Op.TheVariants.{Add, Mul}
use Rattle.sm_num.specs.Eliminating.{is_negative, floor_of, ceiling_of}

-- a value for each variable
abbrev pub Values : Type 0
Values = ℕ → ℤ

-- the coefficient of a variable in a form
abbrev pub at : ℕ → Linear ℕ → ℤ
at t f = coefficient same_atom t f.parts

-- whether a form has a variable
abbrev pub has : ℕ → Linear ℕ → Bool
has t f = not (int_eq (at t f) (pos 0))

-- whether its coefficient there is below 0, so that the form bounds the variable from below
abbrev pub bounds_below : ℕ → Linear ℕ → Bool
bounds_below t f = is_negative (at t f)

-- whether it is above 0, so that the form bounds the variable from above
abbrev pub bounds_above : ℕ → Linear ℕ → Bool
bounds_above t f = has t f && not (bounds_below t f)

-- the forms that bound a variable from below
abbrev pub lower_bounds : ℕ → List (Linear ℕ) → List (Linear ℕ)
lower_bounds t fs = filter (bounds_below t) fs

-- those that bound it from above
abbrev pub upper_bounds : ℕ → List (Linear ℕ) → List (Linear ℕ)
upper_bounds t fs = filter (bounds_above t) fs

-- the forms without a variable
abbrev pub others : ℕ → List (Linear ℕ) → List (Linear ℕ)
others t fs = filter (λ f. not (has t f)) fs

-- the lesser of a number and another that may be missing
abbrev pub lesser : ℕ → Option ℕ → ℕ
lesser n None = n
lesser n (Some m) = if nat_lt m n then m else n

-- the lesser of a number and the first variable of parts, which ascend
abbrev pub lesser_first : List (ℕ × ℤ) → Option ℕ → Option ℕ
lesser_first [] other = other
lesser_first (p ∷ ps) other = Some (lesser p.0 other)

-- the least variable of forms
abbrev pub least_variable : List (Linear ℕ) → Option ℕ
least_variable [] = None
least_variable (f ∷ fs) = lesser_first f.parts (least_variable fs)

-- all values but that of t
abbrev pub put : ℕ → ℤ → Values → Values
put t z v = λ (a : ℕ). if a == t then z else v a

-- the sum of parts behind a sum that is computed
abbrev pub sum_from : Values → ℤ → List (ℕ × ℤ) → Outcome ℤ
sum_from v z [] = Fits z
sum_from v z (p ∷ ps) =
    then_with (computed Mul p.1 (v p.0)) (λ (y : ℤ).
    then_with (computed Add z y) (λ (x : ℤ). sum_from v x ps))

-- the value of a form without its part at t: products and sums by ascending variable, the constant
-- last
abbrev pub rest_of : ℕ → Values → Linear ℕ → Outcome ℤ
rest_of t v f =
    then_with (sum_from v (pos 0) (without same_atom t f).parts) (λ (z : ℤ).
    computed Add z f.constant)

-- the value of t with which a form is 0, where its coefficient there is 1 or -1, by the rest
abbrev pub value_from : ℤ → ℤ → ℤ
value_from a rest = if is_negative a then rest else neg_ℤ rest

-- the least or the greatest value of t with which a form holds, where the rest is this
abbrev pub bound_from : ℤ → ℤ → ℤ
bound_from a rest =
    if is_negative a then ceiling_of rest (nat_abs a) else floor_of (neg_ℤ rest) (nat_abs a)

-- the bounds that forms give for t
abbrev pub bounds_of : ℕ → Values → List (Linear ℕ) → Outcome (List ℤ)
bounds_of t v [] = Fits []
bounds_of t v (f ∷ fs) =
    then_with (rest_of t v f) (λ (z : ℤ).
    then_with (bounds_of t v fs) (λ (zs : List ℤ). Fits (bound_from (at t f) z ∷ zs)))

-- the greatest of a number and others
abbrev pub greatest_of : ℤ → List ℤ → ℤ
greatest_of z [] = z
greatest_of z (y ∷ ys) = greatest_of (if int_lt z y then y else z) ys

-- the least of a number and others
abbrev pub least_of : ℤ → List ℤ → ℤ
least_of z [] = z
least_of z (y ∷ ys) = least_of (if int_lt y z then y else z) ys

-- the greatest of numbers, 0 of none
abbrev pub greatest : List ℤ → ℤ
greatest [] = pos 0
greatest (z ∷ zs) = greatest_of z zs

-- the least of numbers, 0 of none
abbrev pub least : List ℤ → ℤ
least [] = pos 0
least (z ∷ zs) = least_of z zs
