-- The keys so far were looked up.
use Rattle.sm_batch.proofs.Imports.{◌≡◌, drop, after_looks, entries_of}
use Rattle.sm_batch.proofs.settling.look_all.Given as goal

abbrev pub invariant-loop-step : goal.invariant-loop-step
invariant-loop-step l =
    (after_looks (drop l.step-index l.steps) (entries_of l.cache.entries) ≡ after_looks l.steps (entries_of l.initial.cache.entries))
    × (l.cache.cap ≡ l.initial.cache.cap)
