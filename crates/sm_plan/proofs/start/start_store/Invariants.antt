-- The numbers so far are those of the start values.
use Rattle.sm_plan.proofs.Imports.{◌≡◌, length, map, take, Name, Sort, Start, trees_in, tree_at, AreBefore, TermId, AddsTerms}
use Rattle.sm_plan.proofs.start.start_store.Given as goal

abbrev pub invariant-loop-d : goal.invariant-loop-d
invariant-loop-d l = record {
  grows : AddsTerms l.fn.table l.table;
  made : map (λ (t : TermId). tree_at (trees_in l.table) t.0) l.list.items
      ≡ map (λ (d : Name × Sort). Start d.0.0) (take l.d-index l.d-items);
  within : AreBefore (length (trees_in l.table)) l.list.items;
}
