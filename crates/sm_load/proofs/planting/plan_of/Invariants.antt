-- Each node is taken off.
use Rattle.std.proofs.Common.{length}
use Rattle.sm_load.proofs.planting.plan_of.Given as goal

abbrev pub decreases-loop-node : goal.decreases-loop-node
decreases-loop-node l = length l.rest.items
