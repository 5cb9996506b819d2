-- What `check --deeper` answers where the search decides nothing. Public clauses cite it.
use Rattle.std.specs.Prelude.{◌≡◌, ◌⊎◌, ◌≤◌, ℕ, true, List, Ok, codes}
use Rattle.sm_eval.specs.StoredValues.{meaning}
use Rattle.sm_eval.specs.declared.store.Store as code
use Rattle.sm_replay.specs.Verdicts.{Judges}
use Rattle.sm_replay.specs.Violations.{Violates}
use Rattle.sm_replay.specs.declared.verdict.Verdict.{Verdict}
use Rattle.sm_syntax.specs.claim.ConflictFree.{ConflictFree}
use Rattle.sm_syntax.specs.text.Parts.{Parts, task_of}
use Rattle.sm_words.specs.declared.effort.Effort.{Effort}
use Rattle.sm_answers.specs.Status.{Says}
use Rattle.sm_answers.specs.declared.status.Status.{Status}
use Rattle.sm_answers.specs.declared.status.Status.TheVariants.{Accepted, Unknown, WriteFault}
use Rattle.sm_replies.specs.Check.{AnswersCheck, SaysNoted, ShowsFrom}

-- it was asked for, the search decides nothing, and an input beyond the trials, from which the task
-- is violated, is shown with what a run of the four programs from it says
pub record ShowsBeyond (t : Parts) (effort : Effort) (status : Status) (text : List ℕ) : Type 0 where
  pub asked : effort.deeper ≡ true
  pub line : List ℕ
  pub undecided : AnswersCheck t effort Unknown line
  pub number : ℕ
  pub beyond : 256 ≤ number
  pub store : code.Store
  pub violates : Violates (task_of t) (meaning store) effort.turns
  pub verdict : Verdict
  pub judged : Judges (task_of t) (meaning store) effort.turns (Ok verdict)
  pub shows : ShowsFrom t number (meaning store) verdict status text

-- it was asked for, the search decides nothing, and the task is accepted by a proof that was found
-- along runs; only a task that is free of conflicts is
pub record ProvesBeyond (t : Parts) (effort : Effort) (status : Status) (text : List ℕ) : Type 0 where
  pub asked : effort.deeper ≡ true
  pub line : List ℕ
  pub undecided : AnswersCheck t effort Unknown line
  pub free : ConflictFree (task_of t)
  pub says : SaysNoted t Accepted (codes "Accepted\n") status text

-- what is answered where the search decides nothing
abbrev pub GoesBeyond : Parts → Effort → Status → List ℕ → Type 0
GoesBeyond t effort status text = ShowsBeyond t effort status text ⊎ ProvesBeyond t effort status text

-- what is answered to a task: what its search comes to, or an input that shows a conflict, or that it
-- is accepted by a further proof
abbrev pub AnswersDeeper : Parts → Effort → Status → List ℕ → Type 0
AnswersDeeper t effort status text =
    AnswersCheck t effort status text ⊎ GoesBeyond t effort status text

-- the task is accepted, but its proof couldn't be written whole
pub record FailsToWrite (t : Parts) (effort : Effort) (status : Status) (text : List ℕ) : Type 0 where
  pub line : List ℕ
  pub accepted : AnswersDeeper t effort Accepted line
  pub says : Says WriteFault (codes "WriteFault\n") status text
