-- What waits can be gone on from; the nodes that were met and those of what waits are all; and a table only widens.
use Rattle.sm_audit.proofs.Imports.{◌≡◌, List, length, reverse, Sorts, ExtendsTable, Tree, State, IsUnderway, nodes_with, ArePlacedReady, weight}
use Rattle.sm_audit.proofs.noting.note_nodes.Given as goal

abbrev pub invariant-loop-next : goal.invariant-loop-next
invariant-loop-next l = record {
  ready : ArePlacedReady l.table (reverse l.waiting.items);
  met :
      (sorts : Sorts) (trees : List Tree) →
      nodes_with sorts trees l.rows.items (reverse l.waiting.items)
      ≡ nodes_with sorts trees l.initial.rows.items (reverse l.initial.waiting.items);
  underway :
      (states : List State) →
      IsUnderway states l.initial.table (length l.initial.rows.items) l.initial.since.items (reverse l.initial.waiting.items) →
      IsUnderway states l.table (length l.rows.items) l.since.items (reverse l.waiting.items);
  widens : ExtendsTable l.initial.table l.table;
}

abbrev pub decreases-loop-next : goal.decreases-loop-next
decreases-loop-next l = weight (reverse l.waiting.items)
