-- The marks so far, and the table has no fewer terms; the node is one over it.
use Rattle.sm_houdini.proofs.Imports.{◌≡◌, length, take, trees_in, sorts_in, ExtendsTable, due_in, closes_at, still_marked, IsNodeOf}
use Rattle.sm_houdini.proofs.closing.judged_at.Given as goal

abbrev pub invariant-loop-mark : goal.invariant-loop-mark
invariant-loop-mark l = record {
  count : length l.list.items ≡ l.mark-index;
  marks : l.list.items
      ≡ still_marked (closes_at (sorts_in l.initial.table) l.reach (due_in (sorts_in l.initial.table) (trees_in l.initial.table) l.due)) 0
      (take l.mark-index l.marks);
  widens : ExtendsTable l.initial.table l.table;
  node : IsNodeOf l.table l.due.facts.list.items l.node;
}
