-- The forms of the terms so far.
use Rattle.sm_judge.proofs.Imports.{◌≡◌, ◌≤◌, ◌-◌, ◌++◌, List, length, Linear, trees_in, AreLinearForms}
use Rattle.std.proofs.Common.{ℕ}
use Rattle.sm_judge.proofs.linears.add_linear_forms.Given as goal

abbrev pub invariant-loop-alloc : goal.invariant-loop-alloc
invariant-loop-alloc l = record {
  each : AreLinearForms (trees_in l.table) l.forms.items;
  few : length l.forms.items ≤ length (trees_in l.table);
  more : (more : List (Linear ℕ)) × (l.forms.items ≡ l.fn.forms.items ++ more);
}

abbrev pub decreases-loop-alloc : goal.decreases-loop-alloc
decreases-loop-alloc l = length (trees_in l.table) - length l.forms.items
