-- What requests stand for. Public clauses cite it.
use Rattle.std.specs.Prelude.{◌<◌, ◌≤◌, ℕ, List, option_map}
use Rattle.std.specs.Borrow.{Bor}
use Rattle.sm_words.specs.Words.{Asked, check, verify, replay, print, suggest, gen, explain, batch, trim, about, Effort}
use Rattle.sm_words.specs.declared.words.Request.{Request}
use Rattle.sm_words.specs.declared.words.Request.TheVariants.{Check, Verify, Replay, Print, Suggest, Gen, Explain, Batch, Trim, About}

-- what a request asks for
abbrev pub asked_in : Request → Asked
asked_in (Check task proof effort) = check task.now proof.now effort
asked_in (Verify task proof workers) = verify task.now proof.now workers
asked_in (Replay task input turns) = replay task.now input.now turns
asked_in (Print task copy) = print task.now copy
asked_in (Suggest task effort) = suggest task.now effort
asked_in (Gen seed size effort) = gen seed size effort
asked_in (Explain task input turns) =
    explain task.now (option_map (λ (i : Bor (List ℕ)). i.now) input) turns
asked_in (Batch list cache effort) = batch list.now cache effort
asked_in (Trim task proof out) = trim task.now proof.now out.now
asked_in (About what) = about what

-- one to 64 workers
abbrev pub HasWorkers : Effort → Type 0
HasWorkers effort = (0 < effort.workers) × (effort.workers ≤ 64)

-- one to 64 workers, where there are workers; the size is one of a task that is made up; and from 1
-- to 1,000 answers are kept
abbrev pub IsWithin : Request → Type 0
IsWithin (Check task proof effort) = HasWorkers effort
IsWithin (Verify task proof workers) = (0 < workers) × (workers ≤ 64)
IsWithin (Replay task input turns) = Unit {0}
IsWithin (Print task copy) = Unit {0}
IsWithin (Suggest task effort) = HasWorkers effort
IsWithin (Gen seed size effort) = (1 ≤ size) × (size ≤ 190) × HasWorkers effort
IsWithin (Explain task input turns) = Unit {0}
IsWithin (Batch list cache effort) = (0 < cache) × (cache ≤ 1000) × HasWorkers effort
IsWithin (Trim task proof out) = Unit {0}
IsWithin (About what) = Unit {0}
