-- What was passed is copied.
use Rattle.sm_cc.specs.Growing.{IsEntryCopy}
use Rattle.sm_cc.proofs.GrowingLemmas.{AreLike}
use Rattle.sm_cc.proofs.growing.copy_entries.Given as goal

abbrev pub invariant-loop-i : goal.invariant-loop-i
invariant-loop-i l = AreLike IsEntryCopy l.i l.old l.entries.items
