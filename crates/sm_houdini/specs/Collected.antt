-- Private: certificates that are collected, goal by goal, and goals that stop a search.
use Rattle.std.specs.Prelude.{◌≡◌, ℕ, false, List, [], ◌∷◌, map, length}
use Rattle.sm_term.specs.Assertions.{Assertion}
use Rattle.sm_term.specs.Tables.{TableValue, trees_in, sorts_in}
use Rattle.sm_cert.specs.Views.{certificate_in}
use Rattle.sm_cert.specs.declared.tree.CertTree.{CertTree}
use Rattle.sm_plan.specs.Plans.{Due}
use Rattle.sm_expand.specs.declared.due.Due as program
use Rattle.sm_expand.specs.Views.{dues_in}
use Rattle.sm_replay.specs.declared.verdict.Verdict.{Verdict}
use Rattle.sm_judge.specs.Forms.{Walked}
use Rattle.sm_solve.specs.Walk.{walk}
use Rattle.sm_solve.specs.declared.reach.Reach.{Reach}
use Rattle.sm_write.specs.TreesWithin.{AreTreesWithin}
use Rattle.sm_write.specs.Writable.{AreShort}
use Rattle.sm_houdini.specs.declared.ending.Stop.{Stop}
use Rattle.sm_houdini.specs.declared.ending.Stop.TheVariants as stop
use Rattle.sm_houdini.specs.Certified.{AreCertified}
use Rattle.sm_houdini.specs.Outcomes.{Outcome, Accepted, Open, Steps, Coefficient, goal_outcome, goals_outcome, final_outcome}

-- certificates over a table show goals, in order, and their lines are short
pub record AreCollected (v : TableValue) (goals : List (List Assertion × Assertion))
    (trees : List CertTree) : Type 0 where
  pub within : AreTreesWithin (length (trees_in v)) trees
  pub certified : AreCertified (sorts_in v) goals (map (certificate_in (trees_in v)) trees)
  pub short : AreShort (map (certificate_in (trees_in v)) trees)

-- the goals of what a node asks, with their facts
abbrev pub goals_with : List Assertion → List Assertion → List (List Assertion × Assertion)
goals_with facts goals = map (λ (g : Assertion). (facts, g)) goals

-- the outcome of a search that stops
abbrev pub stop_in : Stop → Outcome (ℕ × Verdict)
stop_in (stop.Open node goal) = Open node goal
stop_in (stop.Steps node goal) = Steps node goal
stop_in (stop.Coefficient node goal op y z) = Coefficient node goal op y z

-- a goal at whose walk a search stops, or goes on
abbrev pub GoalStops : ℕ → ℕ → Walked → Stop → Type 0
GoalStops node goal w s =
    (later : Outcome (ℕ × Verdict)) → goal_outcome node goal w later ≡ stop_in s

abbrev pub GoalCloses : ℕ → ℕ → Walked → Type 0
GoalCloses node goal w = (later : Outcome (ℕ × Verdict)) → goal_outcome node goal w later ≡ later

-- a run of the goals of what a node asks, from a place on, at which a search stops, or goes on
abbrev pub RunStops : (List Assertion → Assertion → Walked) → Due → ℕ → List Assertion → Stop →
    Type 0
RunStops walk d first run s =
    (later : Outcome (ℕ × Verdict)) →
    goals_outcome (walk d.facts) d.node first run later ≡ stop_in s

abbrev pub RunCloses : (List Assertion → Assertion → Walked) → Due → ℕ → List Assertion → Type 0
RunCloses walk d first run =
    (later : Outcome (ℕ × Verdict)) →
    goals_outcome (walk d.facts) d.node first run later ≡ later

-- all goals of what a node asks, at which a search stops, or goes on
abbrev pub GoalsStop : (List Assertion → Assertion → Walked) → Due → Stop → Type 0
GoalsStop walk d s = RunStops walk d 0 d.goals s

abbrev pub GoalsClose : (List Assertion → Assertion → Walked) → Due → Type 0
GoalsClose walk d = RunCloses walk d 0 d.goals

-- all final goals, at which a search stops, or which all close
abbrev pub FinalStops : (List Assertion → Assertion → Walked) → List Due → Stop → Type 0
FinalStops walk ds s = final_outcome walk ds ≡ stop_in s

abbrev pub FinalCloses : (List Assertion → Assertion → Walked) → List Due → Type 0
FinalCloses walk ds =
    let accepted : Outcome (ℕ × Verdict) = Accepted in final_outcome walk ds ≡ accepted

-- goals that aren't final close
abbrev pub AreInsideClosed : (List Assertion → Assertion → Walked) → List Due → Type 0
AreInsideClosed walk [] = Unit {0}
AreInsideClosed walk (d ∷ ds) =
    (d.is_final ≡ false → GoalsClose walk d) × AreInsideClosed walk ds

-- so it is of what nodes of the program ask, over a table
pub record IsInsideClosed (v : TableValue) (reach : Reach) (ds : List program.Due) : Type 0 where
  pub closes : AreInsideClosed (walk (sorts_in v) reach) (dues_in (sorts_in v) (trees_in v) ds)
