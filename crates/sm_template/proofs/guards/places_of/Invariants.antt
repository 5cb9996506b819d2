-- The numbers so far are those of the first places.
use Rattle.sm_template.proofs.Imports.{◌≡◌, length, map, take, Name, Sort, copy_named, Slot, trees_in, AreBefore, AddsTerms, trees_of}
use Rattle.sm_template.proofs.guards.places_of.Given as goal

abbrev pub invariant-loop-d : goal.invariant-loop-d
invariant-loop-d l = record {
  grows : AddsTerms l.fn.table l.table;
  made : trees_of (trees_in l.table) l.list.items
      ≡ map (λ (d : Name × Sort). Slot (copy_named l.copy) d.0.0) (take l.d-index l.d-items);
  within : AreBefore (length (trees_in l.table)) l.list.items;
}
