-- The variable goes among those from here on.
use Rattle.sm_exact.proofs.Imports.{◌≡◌, ◌++◌, ◌≤◌, ◌-◌, length, take, drop, with_atom}
use Rattle.sm_exact.proofs.atoms.put_atom.Given as goal

abbrev pub invariant-loop-i : goal.invariant-loop-i
invariant-loop-i l = record {
  within : l.i ≤ length l.atoms.items;
  before : with_atom l.a l.atoms.items ≡ take l.i l.atoms.items ++ with_atom l.a (drop l.i l.atoms.items);
}

abbrev pub decreases-loop-i : goal.decreases-loop-i
decreases-loop-i l = length l.atoms.items - l.i
