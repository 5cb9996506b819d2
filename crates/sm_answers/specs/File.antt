-- What is answered where a task's file, or an input's, is to be read. The count of read faults was
-- `before`, and is `now`. Public clauses cite it.
use Rattle.std.specs.Prelude.{◌≡◌, ◌≢◌, ◌⊎◌, ◌<◌, ◌≤◌, ℕ, List, [], ◌∷◌, length, codes}
use Rattle.sm_io.specs.Causes.{Rose}
use Rattle.sm_io.specs.Files.{Known, absent, WhereHeld}
use Rattle.sm_syntax.specs.text.Parts.{Parts}
use Rattle.sm_syntax.specs.text.Spells.{Spells}
use Rattle.sm_syntax.specs.text.Symbols.{names_of}
use Rattle.sm_task.specs.Errors.{IsRefusedWith}
use Rattle.sm_task.specs.declared.error.TaskError.{TaskError}
use Rattle.sm_task.specs.declared.error.TaskError.TheVariants as no_task
use Rattle.sm_words.specs.Lines.{line_of}
use Rattle.sm_answers.specs.Lines.{refusal_line}
use Rattle.sm_answers.specs.Status.{Says}
pub use Rattle.sm_answers.specs.declared.status.Status.{Status}
pub use Rattle.sm_answers.specs.declared.status.Status.TheVariants.{Accepted, Conflict, Memory, ReadFault, Refused, SinkFault, Unknown, Usage, WriteFault}

-- the greatest number of bytes of the file of a task, or of an input
abbrev pub file_limit : ℕ
file_limit = 1048576

-- the file was read, and these are its bytes: where the shelf tells the file's bytes, those
pub record IsRead (file : Known) (before now : ℕ) (bytes : List ℕ) : Type 0 where
  pub there : file ≢ absent
  pub quiet : now ≡ before
  pub held : WhereHeld file (λ (held : List ℕ). held ≡ bytes)
  pub within : length bytes ≤ file_limit

-- the file couldn't be read: the count of read faults rose, or the shelf tells that it isn't there
pub record FailsToRead (file : Known) (before now : ℕ) (status : Status) (text : List ℕ)
    : Type 0 where
  pub cause : Rose before now ⊎ (file ≡ absent)
  pub says : Says ReadFault (codes "ReadFault\n") status text

-- the file, of this kind, has too many bytes
pub record IsTooLong (kind : List ℕ) (file : Known) (before now : ℕ) (status : Status)
    (text : List ℕ) : Type 0 where
  pub there : file ≢ absent
  pub quiet : now ≡ before
  pub over : WhereHeld file (λ (held : List ℕ). file_limit < length held)
  pub says : Says Refused (line_of (codes "TooLong") (kind ∷ [])) status text

-- the file, of this kind, gives no bytes, and the answer says why
abbrev pub GivesNoBytes : List ℕ → Known → ℕ → ℕ → Status → List ℕ → Type 0
GivesNoBytes kind file before now status text =
    FailsToRead file before now status text ⊎ IsTooLong kind file before now status text

-- the bytes spell no task for this cause, which is the first fault of the text or the first
-- condition
-- that fails, and the reply names it
pub record IsNoTask (bytes : List ℕ) (status : Status) (text : List ℕ) : Type 0 where
  pub error : TaskError
  pub cause : error ≢ no_task.Memory
  pub first : IsRefusedWith bytes error
  pub spells_none : (t : Parts) → Spells bytes t → ⊥
  pub says : Says Refused (refusal_line (names_of bytes) error) status text

-- the file was read, and its bytes are no task
pub record RefusesTask (file : Known) (before now : ℕ) (status : Status) (text : List ℕ)
    : Type 0 where
  pub bytes : List ℕ
  pub read : IsRead file before now bytes
  pub refuses : IsNoTask bytes status text

-- the file gives no task, and the answer says why
abbrev pub GivesNoTask : Known → ℕ → ℕ → Status → List ℕ → Type 0
GivesNoTask file before now status text =
    GivesNoBytes (codes "task") file before now status text
    ⊎ RefusesTask file before now status text

-- the file was read, and its bytes spell the task
pub record GivesTask (file : Known) (before now : ℕ) (t : Parts) : Type 0 where
  pub bytes : List ℕ
  pub read : IsRead file before now bytes
  pub spells : Spells bytes t
