-- The labels of no pair that was passed are those of the two places.
use Rattle.sm_cc.proofs.Imports.{◌≡◌, false, take, list_any, has_labels}
use Rattle.sm_cc.proofs.quiet.are_parted.Given as goal

abbrev pub invariant-loop-p : goal.invariant-loop-p
invariant-loop-p l = list_any (has_labels l.roots l.i l.j) (take l.p-index l.apart) ≡ false
