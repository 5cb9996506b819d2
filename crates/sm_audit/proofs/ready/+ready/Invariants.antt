-- One node less is allowed below each, and the plans from here on decide.
use Rattle.sm_audit.proofs.Imports.{◌+◌, ◌*◌, drop, trees_in, sorts_in}
use Rattle.sm_audit.proofs.PlanReadyLemmas.{AreListReady}
use Rattle.sm_audit.proofs.ready.+ready.Given as goal

abbrev pub invariant-are_plans_ready-loop-plan : goal.invariant-are_plans_ready-loop-plan
invariant-are_plans_ready-loop-plan l =
    AreListReady (sorts_in l.table) (trees_in l.table) (drop l.plan-index l.plans) →
    AreListReady (sorts_in l.table) (trees_in l.table) l.plans

abbrev pub decreases-is_plan_ready : goal.decreases-is_plan_ready
decreases-is_plan_ready l = 2 * l.allowed

abbrev pub decreases-are_plans_ready : goal.decreases-are_plans_ready
decreases-are_plans_ready l = 2 * l.allowed + 1
