-- No pair that was passed is the one that is looked for.
use Rattle.sm_cc.proofs.Imports.{◌≡◌, false, take, list_any}
use Rattle.sm_cc.proofs.CausesLemmas.{is_pair}
use Rattle.sm_cc.proofs.compare.given.Given as goal

abbrev pub invariant-loop-g : goal.invariant-loop-g
invariant-loop-g l = list_any (is_pair l.i l.j) (take l.g-index l.list) ≡ false
