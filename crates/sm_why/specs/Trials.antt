-- How many trials of a task end. Public clauses cite it.
use Rattle.std.specs.Prelude.{◌≡◌, ◌⊎◌, ℕ, zero, suc, List, ◌++◌, codes, decimal}
use Rattle.sm_syntax.specs.claim.ConflictFree.{Copy, Task, program_of}
use Rattle.sm_syntax.specs.claim.Stores.{Store}
use Rattle.sm_syntax.specs.text.Parts.{Parts, sort_of, task_of}
use Rattle.sm_replay.specs.Trials.{trial, trials}
use Rattle.sm_replay.specs.Violations.{AreEnds, IsMet}

-- the store meets the assumption, and the four programs end from it
pub record EndsFrom (t : Task) (s : Store) (turns : ℕ) : Type 0 where
  pub met : IsMet t.assumed s
  pub end : Copy → Store
  pub ends : AreEnds (program_of t) s turns end

-- of the first n numbers so many have a property
unfoldable pub AreCounted : (ℕ → Type 0) → ℕ → ℕ → Type 0
AreCounted P zero count = count ≡ 0
AreCounted P (suc n) count =
    (P n × ((before : ℕ) × (count ≡ suc before) × AreCounted P n before))
    ⊎ ((¬ P n) × AreCounted P n count)

-- so many trials of the task end
abbrev pub EndingTrials : Parts → ℕ → ℕ → Type 0
EndingTrials t turns count =
    AreCounted (λ (j : ℕ). EndsFrom (task_of t) (trial (sort_of t.declared) j) turns) trials count

-- the line that says how many do
abbrev pub trials_words : ℕ → List ℕ
trials_words count = decimal count ++ codes " of 256 trials ended\n"

-- the line on the trials of a task
abbrev pub IsTrialsLine : Parts → ℕ → List ℕ → Type 0
IsTrialsLine t turns line =
    (count : ℕ) × EndingTrials t turns count × (line ≡ trials_words count)
