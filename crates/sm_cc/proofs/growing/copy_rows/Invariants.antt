-- What was passed is copied.
use Rattle.sm_cc.specs.Growing.{IsCopy}
use Rattle.sm_cc.proofs.GrowingLemmas.{AreLike}
use Rattle.sm_cc.proofs.growing.copy_rows.Given as goal

abbrev pub invariant-loop-i : goal.invariant-loop-i
invariant-loop-i l = AreLike IsCopy l.i l.old l.rows.items
