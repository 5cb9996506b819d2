-- The stored values so far agree with those at the entry.
use Rattle.std.proofs.Common.{◌-◌, length}
use Rattle.sm_eval.proofs.Declaring.{Agree}
use Rattle.sm_eval.proofs.store.extend.Given as goal

abbrev pub invariant-loop-stored : goal.invariant-loop-stored
invariant-loop-stored l = Agree l.fn.stored.items l.stored.items

abbrev pub decreases-loop-stored : goal.decreases-loop-stored
decreases-loop-stored l = l.count - length l.stored.items
