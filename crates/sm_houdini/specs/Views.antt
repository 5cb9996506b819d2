-- Cited by public clauses: what the program's own outcomes stand for, and what comes with one that
-- accepts.
use Rattle.std.specs.Prelude.{ℕ}
use Rattle.sm_syntax.specs.text.Parts.{Parts}
use Rattle.sm_replay.specs.declared.verdict.Verdict.{Verdict}
use Rattle.sm_goals.specs.Whole.{IsWhole}
use Rattle.sm_houdini.specs.declared.outcome.Outcome as program
use Rattle.sm_houdini.specs.declared.outcome.Outcome.TheVariants as outcome
use Rattle.sm_houdini.specs.Outcomes.{Outcome, Accepted, Conflict, Open, Steps, Coefficient, TooMany}

-- the outcome that one of the program stands for
abbrev pub outcome_in : program.Outcome → Outcome (ℕ × Verdict)
outcome_in (outcome.Accepted proof) = Accepted
outcome_in (outcome.Conflict trial verdict) = Conflict (trial, verdict)
outcome_in (outcome.Open node goal) = Open node goal
outcome_in (outcome.Steps node goal) = Steps node goal
outcome_in (outcome.Coefficient node goal op y z) = Coefficient node goal op y z
outcome_in outcome.TooMany = TooMany

-- an outcome that accepts comes with such a plan
abbrev pub IsProof : Parts → program.Outcome → Type 0
IsProof t (outcome.Accepted proof) = IsWhole t proof
IsProof t (outcome.Conflict trial verdict) = Unit {0}
IsProof t (outcome.Open node goal) = Unit {0}
IsProof t (outcome.Steps node goal) = Unit {0}
IsProof t (outcome.Coefficient node goal op y z) = Unit {0}
IsProof t outcome.TooMany = Unit {0}
