-- Private: how the walk of a goal ends at a node.
use Rattle.std.specs.Prelude.{◌≡◌, ℕ, List}
use Rattle.sm_syntax.specs.text.Sorts.{Sorts}
use Rattle.sm_term.specs.Assertions.{Assertion}
use Rattle.sm_term.specs.Terms.{Tree}
use Rattle.sm_solve.specs.declared.goal_end.GoalEnd.{GoalEnd}
use Rattle.sm_solve.specs.declared.goal_end.GoalEnd.TheVariants as goal
use Rattle.sm_judge.specs.Forms.{Walked, Closes}
use Rattle.sm_solve.specs.Walking.{ClosesIn, TellsEnd, ShowsEnd}

-- the end is what the walk comes to, whatever its count
abbrev pub TellsGoal : Sorts → List Tree → GoalEnd → Walked → Type 0
TellsGoal sorts trees (goal.Inconsistent tree) w = (count : ℕ) × (w ≡ Closes count)
TellsGoal sorts trees (goal.Walked end) w = TellsEnd sorts trees end w

-- the certificate that comes with it closes the branch of these facts
abbrev pub ShowsGoal : Sorts → List Tree → List Assertion → ℕ → GoalEnd → Type 0
ShowsGoal sorts trees facts room (goal.Inconsistent tree) = ClosesIn sorts trees facts room tree
ShowsGoal sorts trees facts room (goal.Walked end) = ShowsEnd sorts trees facts room end
