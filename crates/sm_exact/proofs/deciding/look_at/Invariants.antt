-- The forms from here on are kept.
use Rattle.sm_exact.proofs.Imports.{◌≤◌, length, drop, AllKept}
use Rattle.sm_exact.proofs.deciding.look_at.Given as goal

abbrev pub invariant-loop-i : goal.invariant-loop-i
invariant-loop-i l = record { within : l.i ≤ length l.forms; kept : AllKept (drop l.i l.forms) }

abbrev pub decreases-loop-i : goal.decreases-loop-i
decreases-loop-i l = l.i
