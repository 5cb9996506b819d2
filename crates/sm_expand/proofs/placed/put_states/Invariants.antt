-- The states that are done wait, the first of them the last.
use Rattle.sm_expand.proofs.Imports.{◌≡◌, ◌++◌, List, length, reverse, Successor, placed_with}
use Rattle.sm_expand.specs.declared.cursor.Cursor.{Cursor}
use Rattle.sm_expand.proofs.placed.put_states.Given as goal

abbrev pub invariant-loop-next : goal.invariant-loop-next
invariant-loop-next l = record {
  put :
      (ds : List Successor) × (cs : List Cursor) × (l.initial.left.items ≡ l.left.items
      ++ ds) × (l.initial.places.items ≡ l.places.items ++ cs)
      × (length ds ≡ length cs)
      × (reverse l.waiting.items ≡ placed_with ds cs ++ reverse l.initial.waiting.items);
  same : length l.left.items ≡ length l.places.items;
}

abbrev pub decreases-loop-next : goal.decreases-loop-next
decreases-loop-next l = length l.left.items
