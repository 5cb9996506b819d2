-- One node less is allowed below each, and the plans so far aren't deep.
use Rattle.sm_expand.proofs.Imports.{◌≡◌, ◌+◌, ◌*◌, false, List, map, take, nat_lt, Sorts, Tree, most_branches, plans_over, plans_before, Over, numbered_plan}
use Rattle.sm_expand.proofs.depth.+depth.Given as goal

abbrev pub invariant-are_deep-loop-plan : goal.invariant-are_deep-loop-plan
invariant-are_deep-loop-plan l =
    (sorts : Sorts) (trees : List Tree) → nat_lt l.allowed
    (most_branches (plans_over sorts trees (plans_before (map numbered_plan (take l.plan-index l.plans)) Over))) ≡ false

abbrev pub decreases-is_deep : goal.decreases-is_deep
decreases-is_deep l = 2 * l.allowed

abbrev pub decreases-are_deep : goal.decreases-are_deep
decreases-are_deep l = 2 * l.allowed + 1
