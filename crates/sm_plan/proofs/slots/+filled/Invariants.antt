use Rattle.sm_plan.proofs.Imports.{◌+◌, ◌*◌, max, size-Formula}
use Rattle.sm_plan.proofs.slots.+filled.Given as goal

abbrev pub decreases-filled_form : goal.decreases-filled_form
decreases-filled_form l = 2 * size-Formula l.f.now

abbrev pub decreases-filled_parts : goal.decreases-filled_parts
decreases-filled_parts l = 2 * max (size-Formula l.p.now) (size-Formula l.q.now) + 1
