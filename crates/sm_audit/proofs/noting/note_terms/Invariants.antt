-- Entries tell what they told, and of the terms so far.
use Rattle.sm_audit.proofs.Imports.{List, Sorts, Tree, State, AreNamedFrom, AreSince}
use Rattle.sm_audit.proofs.noting.note_terms.Given as goal

abbrev pub invariant-loop-t : goal.invariant-loop-t
invariant-loop-t l =
    (sorts : Sorts) (states : List State) (trees : List Tree) → AreSince sorts states trees l.fn.since.items →
    AreNamedFrom sorts states trees l.node l.terms → AreSince sorts states trees l.since.items
