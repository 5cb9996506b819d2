-- What is left to happen after the count so far is what is counted of all.
use Rattle.sm_judge.proofs.Imports.{◌≡◌, ◌≤◌, ◌-◌, Walked, eliminated_by, AreSums, AreNumbered}
use Rattle.std.proofs.Common.{ℕ}
use Rattle.sm_judge.proofs.summing.take_sums.Given as goal

abbrev pub invariant-sums : goal.invariant-sums
invariant-sums l = record {
  walked : (next : ℕ → Walked) →
      eliminated_by l.so_far.steps l.done l.elimination.left next
      ≡ eliminated_by l.so_far.steps l.fn.so_far.count l.fn.elimination.left next;
  numbered : AreNumbered 0 l.elimination.atoms;
  sums : AreSums l.fn.elimination.forms l.elims.items l.elimination.forms;
  counted : l.done ≤ l.so_far.steps;
}

abbrev pub decreases-sums : goal.decreases-sums
decreases-sums l = l.so_far.steps - l.done
