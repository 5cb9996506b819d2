-- The table has no fewer terms, and the node is one over it.
use Rattle.sm_deeper.proofs.Imports.{ExtendsTable, IsNodeOf}
use Rattle.sm_deeper.proofs.ahead.ends_at.Given as goal

abbrev pub invariant-loop-at : goal.invariant-loop-at
invariant-loop-at l = record {
  widens : ExtendsTable l.initial.table l.table;
  node : IsNodeOf l.table l.due.facts.list.items l.node;
}
