-- The way down from the term, and the forms that are there.
use Rattle.sm_theory.proofs.Imports.{◌≡◌, ◌+◌, ◌*◌, None, nat_eq, get, trees_in, AreFormsOf, IsWay, AreOpen, missing_below}
use Rattle.sm_theory.proofs.linear.lin_of.Given as goal

abbrev pub invariant-walk : goal.invariant-walk
invariant-walk l = record {
  kept : AreFormsOf (trees_in l.table) (get nat_eq l.forms);
  way : IsWay l.fn.t.0 l.waiting.items l.next;
  unmade : AreOpen (get nat_eq l.forms) l.waiting.items;
  last : get nat_eq l.forms l.next ≡ None;
}

abbrev pub decreases-walk : goal.decreases-walk
decreases-walk l = missing_below (get nat_eq l.forms) (l.fn.t.0 + 1) * (l.fn.t.0 + 1) + l.next
