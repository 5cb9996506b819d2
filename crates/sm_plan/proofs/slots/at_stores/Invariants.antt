-- The first formulas are made.
use Rattle.sm_plan.proofs.Imports.{◌≡◌, length, nat_eq, take, get, all_at_stores, trees_in, sorts_in, AddsTerms, AreKnown, forms_in, stores_in}
use Rattle.sm_plan.proofs.FillingForms.{AreFormsWithin}
use Rattle.sm_plan.proofs.slots.at_stores.Given as goal

abbrev pub invariant-loop-form : goal.invariant-loop-form
invariant-loop-form l = record {
  grows : AddsTerms l.fn.table l.table;
  known : AreKnown l.table (stores_in (trees_in l.table) l.stores) (get nat_eq l.known);
  made : forms_in (sorts_in l.table) (trees_in l.table) l.list.items
      ≡ all_at_stores (stores_in (trees_in l.fn.table) l.stores)
      (forms_in (sorts_in l.fn.table) (trees_in l.fn.table) (take l.form-index l.forms));
  within : AreFormsWithin (length (trees_in l.table)) l.list.items;
}
