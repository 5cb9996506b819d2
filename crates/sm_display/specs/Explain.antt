-- What `explain` answers: the answer of `print` or of `replay`, and behind its line what a person
-- reads. The count of read faults was `before`, and is `now`. Public clauses cite it.
use Rattle.std.specs.Prelude.{◌≡◌, ◌⊎◌, ℕ, Option, Some, None, List, ◌++◌, codes}
use Rattle.sm_eval.specs.StoredValues.{meaning}
use Rattle.sm_eval.specs.declared.store.Store as code
use Rattle.sm_io.specs.Files.{Known}
use Rattle.sm_syntax.specs.claim.Stores.{Store}
use Rattle.sm_syntax.specs.text.Parts.{Parts}
use Rattle.sm_explain.specs.Starts.{AreStartLines}
use Rattle.sm_answers.specs.File.{GivesNoBytes, GivesTask, IsNoTask, IsRead}
use Rattle.sm_answers.specs.declared.status.Status.{Status}
use Rattle.sm_answers.specs.declared.status.Status.TheVariants.{Accepted}
use Rattle.sm_answers.specs.Replay.{AnswersReplay, GivesInput, GivesNoInput}
use Rattle.sm_answers.specs.Status.{Says}
use Rattle.sm_display.specs.Shown.{misfit_of, offset_of, programs_text, start_heading, ShowsOffset, ShowsRun, ShowsTokens}

-- the bytes are no task: the line says why, and the place at which they are refused is shown, with
-- what could stand there
pub record ShowsNoTask (bytes : List ℕ) (status : Status) (text : List ℕ) : Type 0 where
  pub line : List ℕ
  pub refuses : IsNoTask bytes status line
  pub place : List ℕ
  pub shows : ShowsOffset bytes (offset_of refuses.error) place
  pub tokens : List ℕ
  pub could : ShowsTokens bytes (misfit_of refuses.error) tokens
  pub printed : text ≡ line ++ (place ++ tokens)

-- the file was read, and its bytes are no task
pub record ExplainsRefusal (file : Known) (before now : ℕ) (status : Status) (text : List ℕ)
    : Type 0 where
  pub bytes : List ℕ
  pub read : IsRead file before now bytes
  pub refuses : ShowsNoTask bytes status text

-- the file gives no task, and the answer says why
abbrev pub ExplainsNoTask : Known → ℕ → ℕ → Status → List ℕ → Type 0
ExplainsNoTask file before now status text =
    GivesNoBytes (codes "task") file before now status text
    ⊎ ExplainsRefusal file before now status text

-- the file gives a task, and its four programs are printed
pub record PrintsPrograms (file : Known) (before now : ℕ) (status : Status) (text : List ℕ)
    : Type 0 where
  pub task : Parts
  pub gives : GivesTask file before now task
  pub says : Says Accepted (programs_text task) status text

-- what is answered to `explain` of a task's file
abbrev pub ExplainsFile : Known → ℕ → ℕ → Status → List ℕ → Type 0
ExplainsFile file before now status text =
    ExplainsNoTask file before now status text ⊎ PrintsPrograms file before now status text

-- the verdict on a store, and behind its line the start, and what is shown of the ends
pub record ExplainsReplay (t : Parts) (s : Store) (turns : ℕ) (status : Status) (text : List ℕ)
    : Type 0 where
  pub line : List ℕ
  pub answers : AnswersReplay t s turns status line
  pub start : List ℕ
  pub starts : AreStartLines t.names t.declared s start
  pub ends : List ℕ
  pub shows : ShowsRun t s turns answers.verdict ends
  pub printed : text ≡ line ++ (start_heading ++ (start ++ ends))

-- the file gives an input, and what the programs do from it is explained
pub record ExplainsStore (t : Parts) (file : Known) (turns before now : ℕ) (status : Status)
    (text : List ℕ) : Type 0 where
  pub store : code.Store
  pub gives : GivesInput t file before now store
  pub answers : ExplainsReplay t (meaning store) turns status text

-- what is answered to a task and an input's file
abbrev pub ExplainsInput : Parts → Known → ℕ → ℕ → ℕ → Status → List ℕ → Type 0
ExplainsInput t file turns before now status text =
    GivesNoInput t file before now status text
    ⊎ ExplainsStore t file turns before now status text

-- the file gives a task, and then comes the input's
pub record ExplainsTask (file input : Known) (turns before now : ℕ) (status : Status)
    (text : List ℕ) : Type 0 where
  pub task : Parts
  pub between : ℕ
  pub gives : GivesTask file before between task
  pub answers : ExplainsInput task input turns between now status text

-- what is answered to `explain` of a task's file and an input's
abbrev pub ExplainsRun : Known → Known → ℕ → ℕ → ℕ → Status → List ℕ → Type 0
ExplainsRun file input turns before now status text =
    ExplainsNoTask file before now status text
    ⊎ ExplainsTask file input turns before now status text

-- what is answered to `explain`, with an input's file or without one
abbrev pub Explains : (List ℕ → Known) → List ℕ → Option (List ℕ) → ℕ → ℕ → ℕ → Status → List ℕ
    → Type 0
Explains files task None turns before now status text =
    ExplainsFile (files task) before now status text
Explains files task (Some input) turns before now status text =
    ExplainsRun (files task) (files input) turns before now status text
