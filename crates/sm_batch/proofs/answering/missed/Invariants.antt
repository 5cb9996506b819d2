-- The tasks so far that were no hits are followed by those of the rest.
use Rattle.sm_batch.proofs.Imports.{◌≡◌, ◌++◌, map, drop, missed}
use Rattle.sm_batch.proofs.answering.missed.Given as goal

abbrev pub invariant-loop-i : goal.invariant-loop-i
invariant-loop-i l =
    map (λ t. t.now) l.wanted.items ++ missed (drop l.i l.tasks) (drop l.i l.looked) ≡ missed l.tasks l.looked
