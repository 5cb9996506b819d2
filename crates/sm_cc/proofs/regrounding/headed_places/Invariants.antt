-- Each place below is in one class with the first that has its key.
use Rattle.sm_cc.proofs.Imports.{are_together, AreFirsts, met_at, headed_at}
use Rattle.sm_cc.proofs.regrounding.headed_places.Given as goal

abbrev pub invariant-loop-i : goal.invariant-loop-i
invariant-loop-i l = AreFirsts (headed_at l.c) (are_together l.c.roots.items) (met_at l.met) l.i
