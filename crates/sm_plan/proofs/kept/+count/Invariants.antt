use Rattle.sm_plan.proofs.Imports.{◌+◌, ◌*◌, max, size-Formula}
use Rattle.sm_plan.proofs.kept.+count.Given as goal

abbrev pub decreases-nodes_left : goal.decreases-nodes_left
decreases-nodes_left l = 2 * size-Formula l.f.now

abbrev pub decreases-both_left : goal.decreases-both_left
decreases-both_left l = 2 * max (size-Formula l.p.now) (size-Formula l.q.now) + 1
