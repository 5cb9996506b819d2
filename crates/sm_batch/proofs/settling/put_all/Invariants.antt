-- What the steps so far have was put, or left out.
use Rattle.sm_batch.proofs.Imports.{◌≡◌, into_iter_items, Entries, ArePutOrNot, entries_of}
use Rattle.sm_batch.proofs.settling.put_all.Given as goal

abbrev pub invariant-loop-step : goal.invariant-loop-step
invariant-loop-step l =
    ((after : Entries) →
    ArePutOrNot l.initial.cache.cap (into_iter_items l.step-iterator) (entries_of l.cache.entries) after →
    ArePutOrNot l.initial.cache.cap l.fn.steps.items (entries_of l.initial.cache.entries) after)
    × (l.cache.cap ≡ l.initial.cache.cap)
