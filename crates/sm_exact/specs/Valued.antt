-- Private: values that are found by their variable, and what comes of a turn.
use Rattle.std.specs.Prelude.{◌≡◌, ℕ, ℤ, pos, int_lt, Bool, if◌then◌else◌, Option, Some, None, unwrap_or, List}
use Rattle.sm_num.specs.declared.error.NumError.{NumError}
use Rattle.sm_num.specs.declared.error.NumError.TheVariants as error
use Rattle.sm_num.specs.Forms.{Linear}
use Rattle.sm_num.specs.Combining.{Outcome, Fits, then_with, computed}
use Rattle.sm_num.specs.declared.op.Op.TheVariants.{Add, Mul}
use Rattle.sm_omega.specs.Counting.{Done, Outside}
use Rattle.sm_omega.specs.Solving.{Values, at, rest_of, bound_from, bounds_below, bounds_above}
use Rattle.sm_omega.specs.Rules.{Answer}
use Rattle.sm_exact.specs.declared.answer.ExactAnswer.{ExactAnswer}
use Rattle.sm_exact.specs.declared.answer.ExactAnswer.TheVariants as answers
use Rattle.sm_exact.specs.declared.deciding.Turned.{Turned}
use Rattle.sm_exact.specs.declared.deciding.Turned.TheVariants.{Next, Solved, Ends}
use Rattle.sm_exact.specs.declared.frame.Side.{Side}
use Rattle.sm_exact.specs.declared.frame.Side.TheVariants.{Below, Above}
use Rattle.sm_exact.specs.Stack.{Awaits, Stands, told, all_zero, Frame}
use Rattle.sm_exact.specs.Telling.{TellsExact}

-- the values that are found, 0 where none is
abbrev pub values_in : (ℕ → Option ℤ) → Values
values_in found = λ (a : ℕ). unwrap_or (found a) (pos 0)

-- a sum with a part more
abbrev pub added : Values → ℤ → ℕ × ℤ → Outcome ℤ
added v z part =
    then_with (computed Mul part.1 (v part.0)) (λ (y : ℤ). computed Add z y)

-- the bound that a form gives for a variable
abbrev pub bound_at : ℕ → Values → Linear ℕ → Outcome ℤ
bound_at t v f = then_with (rest_of t v f) (λ (z : ℤ). Fits (bound_from (at t f) z))

-- whether a form bounds a variable from a side
abbrev pub is_from : Side → ℕ → Linear ℕ → Bool
is_from Below t f = bounds_below t f
is_from Above t f = bounds_above t f

-- the greater of two bounds from below, the lesser of two from above
abbrev pub better : Side → Option ℤ → ℤ → ℤ
better side None z = z
better Below (Some y) z = if int_lt y z then z else y
better Above (Some y) z = if int_lt z y then z else y

-- the best of bounds so far and that of a form, where it bounds the variable from the side
abbrev pub bound_with : Side → ℕ → Values → Option ℤ → Linear ℕ → Outcome (Option ℤ)
bound_with side t v best f =
    if is_from side t f then
    then_with (bound_at t v f) (λ (z : ℤ). Fits (Some (better side best z)))
    else Fits best

-- a frame makes of a solution another
abbrev pub Leads : Frame → Values → Values → Type 0
Leads frame v w =
    (limit depth c : ℕ) → told limit depth frame (Done c (Some v)) ≡ Done c (Some w)

-- the whole is the operation that left the range; want of memory says nothing
abbrev pub FailsAll : Answer → NumError → Type 0
FailsAll whole (error.Beyond op y z) = whole ≡ Outside op y z
FailsAll whole error.Memory = Unit {0}

-- a frame makes of a solution an operation that left the range
abbrev pub Fails : Frame → Values → NumError → Type 0
Fails frame v e = (limit depth c : ℕ) → FailsAll (told limit depth frame (Done c (Some v))) e

-- what comes of a turn tells of the whole
abbrev pub Turns : ℕ → List Frame → Answer → Turned → Type 0
Turns limit fs whole (Next s entry) = Stands limit fs s entry whole
Turns limit fs whole Solved = (c : ℕ) × Awaits limit fs (Done c (Some all_zero)) whole
Turns limit fs whole (Ends answer) = (given : List (Linear ℕ)) → TellsExact given whole answer

-- an answer tells of an operation that left the range; want of memory has none
abbrev pub TellsFailure : NumError → ExactAnswer → Type 0
TellsFailure (error.Beyond op y z) answer = answer ≡ answers.Beyond op y z
TellsFailure error.Memory answer = ⊥
