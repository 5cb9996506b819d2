-- The trials so far that end.
use Rattle.sm_why.proofs.Imports.{ℕ, ◌≤◌, sort_of, task_of, parts_of, trial, AreCounted, EndsFrom}
use Rattle.sm_why.proofs.trials.ending.Given as goal

abbrev pub invariant-loop-j : goal.invariant-loop-j
invariant-loop-j l = record {
  counted : AreCounted (λ (i : ℕ). EndsFrom (task_of (parts_of l.task)) (trial (sort_of (parts_of l.task).declared) i) l.turns) l.j l.count;
  few : l.count ≤ l.j;
  within : l.j ≤ 256;
}
