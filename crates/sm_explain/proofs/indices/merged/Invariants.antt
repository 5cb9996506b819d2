-- What is merged so far, and what is left of the two lists.
use Rattle.sm_explain.proofs.Imports.{◌+◌, length, drop, AreMerging}
use Rattle.sm_explain.proofs.indices.merged.Given as goal

abbrev pub invariant-loop-i : goal.invariant-loop-i
invariant-loop-i l = AreMerging l.left l.right (drop l.p l.left) (drop l.q l.right) l.all.items

abbrev pub decreases-loop-i : goal.decreases-loop-i
decreases-loop-i l = length (drop l.p l.left) + length (drop l.q l.right)
