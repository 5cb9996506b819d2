-- What `replay` answers to a task and an input: what the four programs do from the input's store.
-- Public clauses cite it.
use Rattle.std.specs.Prelude.{◌≢◌, ◌⊎◌, ℕ, Result, Ok, Err, List, codes}
use Rattle.sm_eval.specs.StoredValues.{meaning}
use Rattle.sm_eval.specs.declared.store.Store as code
use Rattle.sm_io.specs.Files.{Known}
use Rattle.sm_replay.specs.Input.{IsInput, Reads}
use Rattle.sm_replay.specs.declared.error.InputError.{InputError}
use Rattle.sm_replay.specs.Verdicts.{Judges}
use Rattle.sm_replay.specs.declared.error.ReplayError.{ReplayError}
use Rattle.sm_replay.specs.declared.error.InputError.TheVariants as no_input
use Rattle.sm_replay.specs.declared.error.ReplayError.TheVariants as stop
use Rattle.sm_replay.specs.declared.verdict.Verdict.{Verdict}
use Rattle.sm_replay.specs.declared.verdict.Verdict.TheVariants as verdict
use Rattle.sm_syntax.specs.text.Parts.{Parts, sort_of, task_of}
use Rattle.sm_syntax.specs.claim.Stores.{Store}
use Rattle.sm_answers.specs.Lines.{input_refusal_line, verdict_line}
use Rattle.sm_answers.specs.File.{IsRead, GivesNoBytes, GivesNoTask, GivesTask, Status, Accepted, Conflict, Unknown, Refused}
use Rattle.sm_answers.specs.Status.{Says}

-- the status of what an input shows
abbrev pub verdict_status : Result Verdict ReplayError → Status
verdict_status (Ok verdict.Holds) = Accepted
verdict_status (Ok verdict.Unmet) = Unknown
verdict_status (Ok (verdict.Violates x i clause)) = Conflict
verdict_status (Err e) = Unknown

-- the verdict on the store, and the answer that says it
pub record AnswersReplay (t : Parts) (s : Store) (turns : ℕ) (status : Status) (text : List ℕ)
    : Type 0 where
  pub verdict : Result Verdict ReplayError
  pub known : verdict ≢ Err stop.Memory
  pub judged : Judges (task_of t) s turns verdict
  pub says : Says (verdict_status verdict) (verdict_line t.names verdict) status text

-- the bytes are no input of the task for this cause, which is the first, and the text names it
pub record IsNoInput (t : Parts) (bytes : List ℕ) (status : Status) (text : List ℕ) : Type 0 where
  pub error : InputError
  pub cause : error ≢ no_input.Memory
  pub refused : Reads t.names (sort_of t.declared) bytes (Err error)
  pub says : Says Refused (input_refusal_line t.names error) status text

-- the file was read, and its bytes are no input
pub record RefusesInput (t : Parts) (file : Known) (before now : ℕ) (status : Status)
    (text : List ℕ) : Type 0 where
  pub bytes : List ℕ
  pub read : IsRead file before now bytes
  pub refuses : IsNoInput t bytes status text

-- the file gives no input, and the answer says why
abbrev pub GivesNoInput : Parts → Known → ℕ → ℕ → Status → List ℕ → Type 0
GivesNoInput t file before now status text =
    GivesNoBytes (codes "input") file before now status text
    ⊎ RefusesInput t file before now status text

-- the file was read, and its bytes are an input that gives this store
pub record GivesInput (t : Parts) (file : Known) (before now : ℕ) (s : code.Store) : Type 0 where
  pub bytes : List ℕ
  pub read : IsRead file before now bytes
  pub gives : IsInput t.names (sort_of t.declared) bytes s

-- the file gives an input, to which `replay` answers
pub record ReplaysStore (t : Parts) (file : Known) (turns before now : ℕ) (status : Status)
    (text : List ℕ) : Type 0 where
  pub store : code.Store
  pub gives : GivesInput t file before now store
  pub answers : AnswersReplay t (meaning store) turns status text

-- what is answered to a task and an input's file
abbrev pub ReplaysInput : Parts → Known → ℕ → ℕ → ℕ → Status → List ℕ → Type 0
ReplaysInput t file turns before now status text =
    GivesNoInput t file before now status text
    ⊎ ReplaysStore t file turns before now status text

-- the file gives a task, and then comes the input's
pub record ReplaysTask (file input : Known) (turns before now : ℕ) (status : Status) (text : List ℕ)
    : Type 0 where
  pub task : Parts
  pub between : ℕ
  pub gives : GivesTask file before between task
  pub answers : ReplaysInput task input turns between now status text

-- what is answered to `replay`
abbrev pub Replays : Known → Known → ℕ → ℕ → ℕ → Status → List ℕ → Type 0
Replays file input turns before now status text =
    GivesNoTask file before now status text ⊎ ReplaysTask file input turns before now status text
