-- The lines that are looked at are used, and of the branches behind the others the names are known.
use Rattle.std.proofs.Common.{length}
use Rattle.sm_used.proofs.UsedLemmas.{Looked}
use Rattle.sm_used.proofs.using.are_used.Given as goal

abbrev pub invariant-loop-row : goal.invariant-loop-row
invariant-loop-row l = Looked l.fn.rows.items l.left.items l.branches.items

abbrev pub decreases-loop-row : goal.decreases-loop-row
decreases-loop-row l = length l.left.items
