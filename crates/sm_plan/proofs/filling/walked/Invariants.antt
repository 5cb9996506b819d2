-- The way down from the term, and what is known.
use Rattle.sm_plan.proofs.Imports.{◌≡◌, ◌+◌, ◌*◌, None, nat_eq, get, trees_in, AddsTerms, AreKnown, IsWay, AreOpen, unknown_below, stores_in}
use Rattle.sm_plan.proofs.filling.walked.Given as goal

abbrev pub invariant-walk : goal.invariant-walk
invariant-walk l = record {
  grows : AddsTerms l.fn.table l.table;
  kept : AreKnown l.table (stores_in (trees_in l.table) l.stores) (get nat_eq l.known);
  way : IsWay l.fn.t.0 l.waiting.items l.next;
  unmade : AreOpen (get nat_eq l.known) l.waiting.items;
  last : get nat_eq l.known l.next ≡ None;
}

abbrev pub decreases-walk : goal.decreases-walk
decreases-walk l = unknown_below (get nat_eq l.known) (l.fn.t.0 + 1) * (l.fn.t.0 + 1) + l.next
