-- What an answer says of an assumption. No public clause cites it.
use Rattle.std.specs.Prelude.{◌≡◌, Bool, true, false, Option, Some, None, Result, Ok, Err}
use Rattle.sm_syntax.specs.text.Sorts.{Sorts, IsWellSortedCondition}
use Rattle.sm_syntax.specs.claim.Stores.{Store}
use Rattle.sm_syntax.specs.claim.Syntax.{Condition}
use Rattle.sm_eval.specs.declared.error.EvalError.TheVariants as eval
use Rattle.sm_replay.specs.Verdicts.{IsUnmet, ReplayError, OutOfTurns, Beyond, BeyondAssumed, Memory}
use Rattle.sm_replay.specs.Violations.{assumed_event, IsMet}

-- each name of an assumption stands as it is declared
abbrev pub IsWellSortedAssumption : Sorts → Option Condition → Type 0
IsWellSortedAssumption sorts None = Unit {0}
IsWellSortedAssumption sorts (Some b) = IsWellSortedCondition sorts b

-- what an answer says of an assumption
abbrev pub Tells : Option Condition → Store → Result Bool ReplayError → Type 0
Tells assumed s (Ok true) = IsMet assumed s
Tells assumed s (Ok false) = IsUnmet assumed s
Tells assumed s (Err (BeyondAssumed op a b)) = assumed_event assumed s ≡ Some (eval.Beyond op a b)
Tells assumed s (Err (OutOfTurns copy)) = ⊥
Tells assumed s (Err (Beyond copy op a b)) = ⊥
Tells assumed s (Err Memory) = ⊥
