-- Private: what is found in lists of forms, and how they are split.
use Rattle.std.specs.Prelude.{◌≡◌, ◌<◌, ℕ, ℤ, IsTrue, true, false, Option, Some, None, List, [], ◌∷◌, ◌++◌, length, get_or, drop}
use Rattle.std.specs.List.{remove}
use Rattle.sm_num.specs.Range.{fits_form}
use Rattle.sm_num.specs.Forms.{Linear}
use Rattle.sm_num.specs.declared.kind.Kind.TheVariants.{Eq}
use Rattle.sm_num.specs.Tightening.{has_no_part}
use Rattle.sm_omega.specs.Counting.{Done}
use Rattle.sm_omega.specs.Solving.{at, has, lower_bounds, upper_bounds, others}
use Rattle.sm_omega.specs.Rules.{Answer}
use Rattle.sm_omega.specs.Equalities.{first_equation, beside, least_part}
use Rattle.sm_omega.specs.Inequalities.{greatest_at, by_all_splinters}
use Rattle.sm_exact.specs.declared.splitting.Sides.{Sides}

-- the first equation with parts stands at a place
pub record Finds (fs : List (Linear ℕ)) (place : ℕ) : Type 0 where
  pub within : place < length fs
  pub found :
      (e : Linear ℕ) → e ≡ get_or fs place e → first_equation fs ≡ Some (e, remove fs place)
  pub equation :
      (e : Linear ℕ) → e ≡ get_or fs place e → (e.kind ≡ Eq) × (has_no_part e.parts ≡ false)

-- the part of the equation at a place by which it is used
pub record IsPartAt (fs : List (Linear ℕ)) (place : ℕ) (part : ℕ × ℤ) : Type 0 where
  pub least : (e : Linear ℕ) → e ≡ get_or fs place e → least_part e.parts ≡ part
  pub stands : (e : Linear ℕ) → e ≡ get_or fs place e → has part.0 e ≡ true
  pub fits : IsTrue (fits_form part.1)

-- forms that stand before what is found among those behind them
abbrev pub passed :
    List (Linear ℕ) → Option (Linear ℕ × List (Linear ℕ)) → Option (Linear ℕ × List (Linear ℕ))
passed [] found = found
passed (f ∷ fs) found = beside f (passed fs found)

-- each variable of parts is below a number
abbrev pub AreBelow : ℕ → List (ℕ × ℤ) → Type 0
AreBelow s [] = Unit {0}
AreBelow s (p ∷ ps) = (p.0 < s) × AreBelow s ps

-- forms are split by a variable
pub record Splits (t : ℕ) (fs : List (Linear ℕ)) (sides : Sides) : Type 0 where
  pub others : sides.others.items ≡ others t fs
  pub lower : sides.lower.items ≡ lower_bounds t fs
  pub upper : sides.upper.items ≡ upper_bounds t fs

-- no lower bound has a splinter
abbrev pub HasNoSplinter : ℕ → List (Linear ℕ) → Type 0
HasNoSplinter t fs =
    (limit c : ℕ) (solve : List (Linear ℕ) → ℕ → Answer) →
    by_all_splinters limit solve fs t (greatest_at t (upper_bounds t fs)) (lower_bounds t fs) c
    ≡ Done c None

-- the list that is kept for splinters, or none where there are none
abbrev pub Keeps : {V : Type 0} → (V → List (Linear ℕ)) → ℕ → List (Linear ℕ) → Option V → Type 0
Keeps items t fs None = HasNoSplinter t fs
Keeps items t fs (Some v) = items v ≡ fs
