-- Private: what the exact decision of a branch's forms tells of the walk.
use Rattle.std.specs.Prelude.{◌≡◌, ℕ, ◌+◌, ◌≤◌, List}
use Rattle.sm_term.specs.Assertions.{Assertion}
use Rattle.sm_judge.specs.Forms.{Walked, Closes, Opens, TooFar, GoesOut}
use Rattle.sm_judge.specs.Holding.{Seen}
use Rattle.sm_certify.specs.Decided.{AreDecided}
use Rattle.sm_solve.specs.declared.deciding.Decision.{Decision}
use Rattle.sm_solve.specs.declared.deciding.Decision.TheVariants as decision

-- a decision after so many steps is what the walk comes to
abbrev pub TellsDecision : ℕ → List Assertion → Decision → Walked → Type 0
TellsDecision count facts (decision.Refuted more sources) w = w ≡ Closes (count + more)
TellsDecision count facts decision.Solution w = w ≡ Opens facts
TellsDecision count facts decision.Steps w = w ≡ TooFar
TellsDecision count facts (decision.Coefficient op y z) w = w ≡ GoesOut op y z

-- where forms have no solution, each has its source, and the count is within the steps
abbrev pub ShowsDecision : Seen → ℕ → Decision → Type 0
ShowsDecision b steps (decision.Refuted count sources) =
    AreDecided b sources.items count × (count ≤ steps)
ShowsDecision b steps decision.Solution = Unit {0}
ShowsDecision b steps decision.Steps = Unit {0}
ShowsDecision b steps (decision.Coefficient op y z) = Unit {0}
