-- The places that were passed have the labels that they had.
use Rattle.sm_cc.specs.Regrounding.{AreLabelsKept}
use Rattle.sm_cc.proofs.regrounding.are_labels_kept.Given as goal

abbrev pub invariant-loop-k : goal.invariant-loop-k
invariant-loop-k l = AreLabelsKept l.k l.old.roots.items l.c.roots.items
