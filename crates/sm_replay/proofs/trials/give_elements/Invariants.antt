-- The elements so far.
use Rattle.sm_replay.proofs.Imports.{◌≡◌, meaning, sorts_of, Overrides, elements_below}
use Rattle.sm_replay.proofs.trials.give_elements.Given as goal

abbrev pub invariant-loop-c : goal.invariant-loop-c
invariant-loop-c l = record {
  value : Overrides (elements_below l.c l.j l.a.0) l.a.0 (meaning l.fn.s) (meaning l.s);
  sorts : sorts_of l.s ≡ sorts_of l.fn.s;
}
