-- The log grows in each round but the last.
use Rattle.sm_cc.proofs.Imports.{◌-◌, ◌^◌, length, Grows}
use Rattle.sm_cc.proofs.regrounding.settle_over.Given as goal

abbrev pub invariant-loop-c : goal.invariant-loop-c
invariant-loop-c l = Grows l.fn.c l.c

abbrev pub decreases-loop-c : goal.decreases-loop-c
decreases-loop-c l = 2 ^ 64 - length l.c.entries.items
