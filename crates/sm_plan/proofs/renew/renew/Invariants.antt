-- The first names have new values.
use Rattle.sm_plan.proofs.Imports.{◌≡◌, length, take, is_in, copy_named, names_in_list, store_in, IsStoreWithin, trees_in, AddsTerms, with_new}
use Rattle.sm_plan.proofs.renew.renew.Given as goal

abbrev pub invariant-loop-name : goal.invariant-loop-name
invariant-loop-name l = record {
  made : store_in (trees_in l.table) l.store
      ≡ with_new l.number (copy_named l.copy) (is_in (names_in_list (take l.name-index l.names)))
      (store_in (trees_in l.fn.table) l.fn.store);
  within : IsStoreWithin (length (trees_in l.table)) l.store;
  len : length l.store.list.items ≡ length l.fn.store.list.items;
  grows : AddsTerms l.fn.table l.table;
}
