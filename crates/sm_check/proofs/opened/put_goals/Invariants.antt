-- The branches of the goals that are done wait, the first of them the last.
use Rattle.sm_check.proofs.Imports.{◌≡◌, ◌++◌, List, length, reverse, Sorts, Formula, Tree, AreStoresReady, AreDenied, AreWaitingReady, Waiting}
use Rattle.sm_check.proofs.opened.put_goals.Given as goal

abbrev pub invariant-loop-goal : goal.invariant-loop-goal
invariant-loop-goal l = record {
  put :
      (done : List Formula) × (ws : List Waiting) × (l.initial.left.items ≡ l.left.items ++ done)
      × AreDenied l.shared l.stores.value done ws
      × (reverse l.waiting.items ≡ ws ++ reverse l.initial.waiting.items);
  ready :
      (sorts : Sorts) (trees : List Tree) → AreStoresReady sorts trees l.stores.value → AreWaitingReady sorts trees l.initial.waiting.items →
      AreWaitingReady sorts trees l.waiting.items;
}

abbrev pub decreases-loop-goal : goal.decreases-loop-goal
decreases-loop-goal l = length l.left.items
