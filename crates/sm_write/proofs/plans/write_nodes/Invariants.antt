-- What waits can be written, and a table only widens.
use Rattle.sm_write.proofs.Imports.{length, reverse, trees_in, ExtendsTable, Subject, AreTreesWithin, IsUnderway, ArePlacedReady, weight, value_of}
use Rattle.sm_write.proofs.plans.write_nodes.Given as goal

abbrev pub invariant-loop-next : goal.invariant-loop-next
invariant-loop-next l = record {
  states : ArePlacedReady l.table (reverse l.waiting.items);
  trees : AreTreesWithin (length (trees_in l.table)) l.left;
  underway :
      (s : Subject) → IsUnderway s l.initial.table (value_of l.initial.w) (reverse l.initial.waiting.items) l.initial.left →
      IsUnderway s l.table (value_of l.w) (reverse l.waiting.items) l.left;
  widens : ExtendsTable l.initial.table l.table;
}

abbrev pub decreases-loop-next : goal.decreases-loop-next
decreases-loop-next l = weight (reverse l.waiting.items)
