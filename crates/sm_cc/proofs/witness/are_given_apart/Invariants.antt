-- No pair that was passed is of the two classes.
use Rattle.sm_cc.proofs.Imports.{◌≡◌, false, take, list_any, is_between, are_together}
use Rattle.sm_cc.proofs.witness.are_given_apart.Given as goal

abbrev pub invariant-loop-g : goal.invariant-loop-g
invariant-loop-g l = list_any (is_between (are_together l.c.roots.items) l.i l.j) (take l.g-index l.c.unequal.items) ≡ false
