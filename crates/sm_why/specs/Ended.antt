-- Which answers are verdicts on four ends. Only private clauses cite it.
use Rattle.std.specs.Prelude.{◌≡◌, Bool, true, false, Result, Ok, Err}
use Rattle.sm_replay.specs.declared.error.ReplayError.{ReplayError}
use Rattle.sm_replay.specs.declared.error.ReplayError.TheVariants.{OutOfTurns, Beyond, BeyondAssumed, Memory}
use Rattle.sm_replay.specs.declared.verdict.Verdict.{Verdict}
use Rattle.sm_replay.specs.declared.verdict.Verdict.TheVariants.{Holds, Unmet, Violates}

-- whether an answer is a verdict on four ends
abbrev pub IsEnded : Result Verdict ReplayError → Bool → Type 0
IsEnded (Ok Holds) ends = ends ≡ true
IsEnded (Ok (Violates x i clause)) ends = ends ≡ true
IsEnded (Ok Unmet) ends = ends ≡ false
IsEnded (Err (OutOfTurns copy)) ends = ends ≡ false
IsEnded (Err (Beyond copy op a b)) ends = ends ≡ false
IsEnded (Err (BeyondAssumed op a b)) ends = ends ≡ false
IsEnded (Err Memory) ends = ⊥
