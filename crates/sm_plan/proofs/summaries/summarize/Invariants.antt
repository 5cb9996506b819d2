-- The names so far have their summaries.
use Rattle.sm_plan.proofs.Imports.{◌≡◌, length, take, code_of, store_in, IsStoreWithin, trees_in, AddsTerms}
use Rattle.sm_plan.proofs.SummariesLemmas.{numbers, summed}
use Rattle.sm_plan.proofs.summaries.summarize.Given as goal

abbrev pub invariant-loop-x : goal.invariant-loop-x
invariant-loop-x l = record {
  grows : AddsTerms l.initial.table l.table;
  made : store_in (trees_in l.table) l.made ≡ summed (code_of l.block) (store_in (trees_in l.fn.table) l.fn.store)
      (take l.x-index (numbers l.x-items));
  within : IsStoreWithin (length (trees_in l.table)) l.made;
  len : length l.made.list.items ≡ length l.fn.store.list.items;
}
