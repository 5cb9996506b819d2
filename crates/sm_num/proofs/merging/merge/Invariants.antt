-- What is put so far, and then the sum of the parts from here on, are all of it.
use Rattle.sm_num.proofs.Imports.{◌≡◌, ◌+◌, ◌-◌, ◌≤◌, length, drop, merged, behind}
use Rattle.sm_num.proofs.merging.merge.Given as goal

abbrev pub invariant-loop-i : goal.invariant-loop-i
invariant-loop-i l = record {
  first : l.i ≤ length l.f;
  second : l.j ≤ length l.g;
  sum : merged l.p l.q l.f l.g ≡ behind l.out.items (merged l.p l.q (drop l.i l.f) (drop l.j l.g));
}

abbrev pub decreases-loop-i : goal.decreases-loop-i
decreases-loop-i l = (length l.f - l.i) + (length l.g - l.j)
