-- From m on all is closed.
use Rattle.sm_cc.proofs.Imports.{◌≤◌, length, AreClosedFrom, MarksMore}
use Rattle.sm_cc.proofs.marks.mark_down.Given as goal

abbrev pub invariant-loop-m : goal.invariant-loop-m
invariant-loop-m l = record {
  within : l.m ≤ length l.c.entries.items;
  closed : AreClosedFrom l.c.entries.items l.marks l.m;
  more : MarksMore l.fn.marks l.marks;
}

abbrev pub decreases-loop-m : goal.decreases-loop-m
decreases-loop-m l = l.m
