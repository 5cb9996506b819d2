-- Each number that is new stands for itself.
use Rattle.sm_list.proofs.Imports.{◌≡◌, ◌≤◌, ◌-◌, ℕ, length, number_under}
use Rattle.sm_list.proofs.shared.lengthen.Given as goal

abbrev pub invariant-loop-numbers : goal.invariant-loop-numbers
invariant-loop-numbers l = record {
  few : length l.numbers.items ≤ l.count;
  same : (n : ℕ) → number_under l.numbers.items n ≡ number_under l.fn.numbers.items n;
}

abbrev pub decreases-loop-numbers : goal.decreases-loop-numbers
decreases-loop-numbers l = l.count - length l.numbers.items
