-- The entries that were passed have their numbers.
use Rattle.sm_cc.proofs.Imports.{placed_of, IsDraft}
use Rattle.sm_cc.proofs.explain.emitted.Given as goal

abbrev pub invariant-loop-m : goal.invariant-loop-m
invariant-loop-m l = IsDraft (placed_of l.c) l.c.entries.items l.marks l.start l.m l.draft
