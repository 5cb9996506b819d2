-- Entries tell what is so.
use Rattle.sm_audit.proofs.Imports.{List, trees_in, sorts_in, State, AreSince}
use Rattle.sm_audit.proofs.spreading.spread.Given as goal

abbrev pub invariant-loop-n : goal.invariant-loop-n
invariant-loop-n l =
    (states : List State) → AreSince (sorts_in l.table) states (trees_in l.table) l.fn.since.items →
    AreSince (sorts_in l.table) states (trees_in l.table) l.since.items
