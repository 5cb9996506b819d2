-- The way down from the term, and what was written.
use Rattle.sm_write.proofs.Imports.{◌≡◌, ◌+◌, ◌*◌, None, nat_eq, get, IsWay, AreOpen, unknown_below, value_of, Walks}
use Rattle.sm_write.proofs.naming.walked.Given as goal

abbrev pub invariant-walk : goal.invariant-walk
invariant-walk l = record {
  way : IsWay l.fn.t.0 l.waiting.items l.next;
  unmade : AreOpen (get nat_eq l.w.names) l.waiting.items;
  last : get nat_eq l.w.names l.next ≡ None;
  walks : Walks l.table (value_of l.fn.w) (value_of l.w) l.fn.t.0 l.waiting.items l.next;
}

abbrev pub decreases-walk : goal.decreases-walk
decreases-walk l = unknown_below (get nat_eq l.w.names) (l.fn.t.0 + 1) * (l.fn.t.0 + 1) + l.next
