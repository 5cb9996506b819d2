-- The copies so far are the stored values so far.
use Rattle.std.proofs.Common.{◌≡◌, take}
use Rattle.sm_eval.proofs.store.Store.copy.Given as goal

abbrev pub invariant-loop-value : goal.invariant-loop-value
invariant-loop-value l = l.stored.items ≡ take l.value-index l.value-items
