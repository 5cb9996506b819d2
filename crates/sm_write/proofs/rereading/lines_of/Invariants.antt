-- The lines so far are read, and the others are left.
use Rattle.std.proofs.Common.{length}
use Rattle.sm_write.proofs.RereadingLemmas.{AreSoFar}
use Rattle.sm_write.proofs.rereading.lines_of.Given as goal

abbrev pub invariant-loop-left : goal.invariant-loop-left
invariant-loop-left l = AreSoFar l.text l.left l.lines.items

abbrev pub decreases-loop-left : goal.decreases-loop-left
decreases-loop-left l = length l.left
