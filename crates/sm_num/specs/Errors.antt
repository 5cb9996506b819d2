-- Cited by public clauses: calls that give what is computed, or say why they don't.
use Rattle.std.specs.Prelude.{◌≡◌, Result, Ok, Err}
pub use Rattle.sm_num.specs.declared.error.NumError.{NumError}
pub use Rattle.sm_num.specs.declared.error.NumError.TheVariants.{Beyond, Memory}
use Rattle.sm_num.specs.Combining.{Outcome, Fits, Leaves}

-- an error names the operation that leaves the range; want of memory may come at any time
abbrev pub Explains : {T : Type 0} → Outcome T → NumError → Type 0
Explains outcome (Beyond op y z) = outcome ≡ Leaves op y z
Explains outcome Memory = Unit {0}

-- a call gives the result that fits, or the error
abbrev pub Returns : {T : Type 0} → Outcome T → Result T NumError → Type 0
Returns outcome (Ok h) = outcome ≡ Fits h
Returns outcome (Err e) = Explains outcome e
