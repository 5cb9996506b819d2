-- The table has no fewer terms, and the node is one over it.
use Rattle.sm_deeper.proofs.Imports.{ExtendsTable, IsNodeOf}
use Rattle.sm_deeper.proofs.node_ends.put_trees_at.Given as goal

abbrev pub invariant-loop-goal : goal.invariant-loop-goal
invariant-loop-goal l = record {
  widens : ExtendsTable l.initial.table l.table;
  node : IsNodeOf l.table l.facts.list.items l.node;
}
