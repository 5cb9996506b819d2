-- What all frames await of a solution of zeros, those that are left await of the values so far.
use Rattle.sm_exact.proofs.Imports.{ℕ, Some, nat_eq, length, get, Done, Answer, Awaits, all_zero, values_in}
use Rattle.sm_exact.proofs.giving.give_all.Given as goal

abbrev pub invariant-loop-frame : goal.invariant-loop-frame
invariant-loop-frame l =
    (limit c : ℕ) (whole : Answer) → Awaits limit l.fn.frames.items (Done c (Some all_zero)) whole →
    Awaits limit l.left.items (Done c (Some (values_in (get nat_eq l.values)))) whole

abbrev pub decreases-loop-frame : goal.decreases-loop-frame
decreases-loop-frame l = length l.left.items
