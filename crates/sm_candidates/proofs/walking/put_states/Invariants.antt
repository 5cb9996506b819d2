-- What waits so far is ready, and so are the states and places that are left.
use Rattle.sm_candidates.proofs.Imports.{length, TableValue, trees_in, sorts_in, AreSuccessorsReady, ArePlacesReady, AreWaitingReady}
use Rattle.sm_candidates.proofs.walking.put_states.Given as goal

abbrev pub invariant-loop-next : goal.invariant-loop-next
invariant-loop-next l =
    (v : TableValue) →
    AreWaitingReady v l.initial.waiting.items →
    AreSuccessorsReady (sorts_in v) (trees_in v) l.initial.left.items →
    ArePlacesReady v l.initial.places.items →
    AreWaitingReady v l.waiting.items × AreSuccessorsReady (sorts_in v) (trees_in v) l.left.items
    × ArePlacesReady v l.places.items

abbrev pub decreases-loop-next : goal.decreases-loop-next
decreases-loop-next l = length l.left.items
