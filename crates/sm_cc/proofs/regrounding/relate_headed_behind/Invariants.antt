-- Each place below is in one class with the first that has its key, or entries were added.
use Rattle.sm_cc.proofs.Imports.{met_at, headed_at, TriesFirsts, over_at}
use Rattle.sm_cc.proofs.regrounding.relate_headed_behind.Given as goal

abbrev pub invariant-loop-i : goal.invariant-loop-i
invariant-loop-i l = TriesFirsts headed_at l.i l.fn.c l.c (over_at (met_at l.ground.headed) (met_at l.met))
