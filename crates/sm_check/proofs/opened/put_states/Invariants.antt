-- The states that are done wait, the first of them the last.
use Rattle.sm_check.proofs.Imports.{◌≡◌, ◌++◌, List, length, map, reverse, Sorts, Tree, AreSuccessorsReady, Successor, waits_at, AreWaitingReady}
use Rattle.sm_check.proofs.opened.put_states.Given as goal

abbrev pub invariant-loop-next : goal.invariant-loop-next
invariant-loop-next l = record {
  put :
      (done : List Successor) × (l.initial.left.items ≡ l.left.items ++ done)
      × (reverse l.waiting.items ≡ map (waits_at l.shared l.above) done ++ reverse l.initial.waiting.items);
  ready :
      (sorts : Sorts) (trees : List Tree) → AreSuccessorsReady sorts trees l.initial.left.items → AreWaitingReady sorts trees l.initial.waiting.items →
      AreSuccessorsReady sorts trees l.left.items × AreWaitingReady sorts trees l.waiting.items;
}

abbrev pub decreases-loop-next : goal.decreases-loop-next
decreases-loop-next l = length l.left.items
