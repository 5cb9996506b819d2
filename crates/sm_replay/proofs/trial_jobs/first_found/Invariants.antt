-- No answer so far is there.
use Rattle.sm_replay.proofs.Imports.{◌≡◌, ◌<◌, ℕ, None, slice_index_or}
use Rattle.sm_replay.proofs.trial_jobs.first_found.Given as goal

abbrev pub invariant-loop-j : goal.invariant-loop-j
invariant-loop-j l = (k : ℕ) → k < l.j → slice_index_or l.results k None ≡ None
