-- The places that were passed have their labels, and the log still says the equation of the labels.
use Rattle.sm_cc.proofs.Imports.{IsNoted, MovesBelow}
use Rattle.sm_cc.proofs.merge.move_roots.Given as goal

abbrev pub invariant-loop-k : goal.invariant-loop-k
invariant-loop-k l = record { moves : MovesBelow l.fn.c l.c l.b l.k; noted : IsNoted l.c l.b }
