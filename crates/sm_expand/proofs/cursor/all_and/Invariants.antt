-- The plans so far.
use Rattle.sm_expand.proofs.Imports.{◌≡◌, map, take, numbered_at, numbered_plan}
use Rattle.sm_expand.proofs.cursor.all_and.Given as goal

abbrev pub invariant-loop-plan : goal.invariant-loop-plan
invariant-loop-plan l = map numbered_at l.list.items ≡ map numbered_plan (take l.plan-index l.plans)
