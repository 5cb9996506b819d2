-- What a search asks of a task, which public clauses cite, and what is known where it ends, which is
-- private.
use Rattle.std.specs.Prelude.{◌≡◌, ℕ}
use Rattle.sm_syntax.specs.text.Parts.{Parts, sort_of}
use Rattle.sm_term.specs.Tables.{TableValue}
use Rattle.sm_expand.specs.declared.plan.Plan.{Plan}
use Rattle.sm_sided.specs.declared.whole.CertTrees.{CertTrees}
use Rattle.sm_replay.specs.declared.verdict.Verdict.{Verdict}
use Rattle.sm_product.specs.Laws.{HaveNoHole}
use Rattle.sm_solve.specs.Walk.{walk}
use Rattle.sm_solve.specs.declared.reach.Reach.{Reach}
use Rattle.sm_houdini.specs.declared.ending.Stop.{Stop}
use Rattle.sm_houdini.specs.declared.outcome.Outcome as program
use Rattle.sm_houdini.specs.Collected.{stop_in}
use Rattle.sm_houdini.specs.Outcomes.{Outcome, Accepted, plan_outcome}
use Rattle.sm_goals.specs.Whole.{IsWhole}
use Rattle.sm_houdini.specs.Views.{outcome_in}

-- what a search asks of a task, beside sorts and numbers: no filling has a hole. It may have any
-- number of nodes
abbrev pub IsSearchable : Parts → Type 0
IsSearchable t = HaveNoHole t

-- what the plan of a task decides
abbrev pub plan_decides : Parts → Reach → Outcome (ℕ × Verdict)
plan_decides t reach = plan_outcome (walk (sort_of t.declared) reach) t

-- an outcome is what the plan of a task decides
abbrev pub TellsPlan : Parts → Reach → program.Outcome → Type 0
TellsPlan t reach o = outcome_in o ≡ plan_decides t reach

-- so it is of a search that stops
abbrev pub TellsStop : Parts → Reach → Stop → Type 0
TellsStop t reach s = stop_in s ≡ plan_decides t reach

-- a plan over a table with certificates, by which a task is accepted
pub record Accepts (t : Parts) (reach : Reach) (v : TableValue) (p : Plan) (trees : CertTrees) :
    Type 0 where
  pub tells : (let accepted : Outcome (ℕ × Verdict) = Accepted in accepted) ≡ plan_decides t reach
  pub whole : IsWhole t (record { table = v; plan = p; trees = trees })
