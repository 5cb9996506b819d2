-- Private: calls that compute forms over numbers of terms, by the forms over terms.
use Rattle.std.specs.Prelude.{ℕ, List, Result, Ok, Err}
use Rattle.sm_num.specs.declared.error.NumError.{NumError}
use Rattle.sm_num.specs.declared.error.NumError.TheVariants.{Beyond, Memory}
use Rattle.sm_num.specs.Forms.{Linear}
use Rattle.sm_num.specs.Combining.{Outcome, Fits, Leaves}
use Rattle.sm_term.specs.Terms.{Tree}
use Rattle.sm_theory.specs.Standing.{IsKeptFor}

-- a call gives a form that is kept for the one that fits, or says that an operation leaves the
-- range; want of memory may come at any time
abbrev pub ReturnsFor : List Tree → Outcome (Linear Tree) → Result (Linear ℕ) NumError → Type 0
ReturnsFor trees (Fits g) (Ok f) = IsKeptFor trees f g
ReturnsFor trees (Fits g) (Err (Beyond op y z)) = ⊥
ReturnsFor trees (Fits g) (Err Memory) = Unit {0}
ReturnsFor trees (Leaves op y z) (Ok f) = ⊥
ReturnsFor trees (Leaves op y z) (Err e) = Unit {0}
