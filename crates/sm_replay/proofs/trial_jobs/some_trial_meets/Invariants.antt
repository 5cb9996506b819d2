-- No trial so far meets the assumption.
use Rattle.sm_replay.proofs.Imports.{◌<◌, ℕ, sort_of, task_of, parts_of, trial, IsMet}
use Rattle.sm_replay.proofs.trial_jobs.some_trial_meets.Given as goal

abbrev pub invariant-loop-j : goal.invariant-loop-j
invariant-loop-j l = (i : ℕ) → i < l.j → ¬ IsMet (task_of (parts_of l.task)).assumed (trial (sort_of (parts_of l.task).declared) i)
