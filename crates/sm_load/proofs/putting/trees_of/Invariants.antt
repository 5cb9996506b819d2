-- Each line is taken off, then each certificate.
use Rattle.std.proofs.Common.{length}
use Rattle.sm_load.proofs.putting.trees_of.Given as goal

abbrev pub decreases-loop-line : goal.decreases-loop-line
decreases-loop-line l = length l.lines.items

abbrev pub decreases-loop-tree : goal.decreases-loop-tree
decreases-loop-tree l = length l.begun.items
