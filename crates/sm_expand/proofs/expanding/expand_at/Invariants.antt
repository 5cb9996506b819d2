-- What is asked and what waits is what the plan asks.
use Rattle.sm_expand.proofs.Imports.{◌≡◌, reverse, ExtendsTable, outcome, IsReadyWith}
use Rattle.sm_expand.specs.Walks.{weight}
use Rattle.sm_expand.proofs.expanding.expand_at.Given as goal

abbrev pub invariant-loop-next : goal.invariant-loop-next
invariant-loop-next l = record {
  ready : IsReadyWith l.table l.walk.path.list.items l.walk.dues.items (reverse l.walk.waiting.items);
  whole :
      outcome l.initial.table l.initial.walk.dues.items l.initial.walk.nodes l.initial.walk.path.list.items
      (reverse l.initial.walk.waiting.items)
      ≡ outcome l.table l.walk.dues.items l.walk.nodes l.walk.path.list.items (reverse l.walk.waiting.items);
  widens : ExtendsTable l.initial.table l.table;
}

abbrev pub decreases-loop-next : goal.decreases-loop-next
decreases-loop-next l = weight (reverse l.walk.waiting.items)
