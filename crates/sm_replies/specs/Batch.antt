-- What `batch` answers to a list of files, each of a task: for each name in order a line with its
-- number and the first line of what `check` answers to its file. Public clauses cite it.
use Rattle.std.specs.Prelude.{◌≡◌, ◌≢◌, ◌⊎◌, ◌++◌, ◌==◌, ℕ, suc, Bool, if◌then◌else◌, List, [], ◌∷◌, map, Contains}
use Rattle.std.specs.List.{AllZip, list_any}
use Rattle.sm_io.specs.Files.{Known}
use Rattle.sm_syntax.specs.text.Parts.{Parts}
use Rattle.sm_answers.specs.File.{FailsToRead, GivesTask, GivesNoTask}
use Rattle.sm_answers.specs.declared.status.Status.{Status}
use Rattle.sm_answers.specs.declared.status.Status.TheVariants.{Accepted, Conflict, Unknown, Refused, ReadFault}
use Rattle.sm_answers.specs.Lists.{numbered_line, GivesList, GivesNoList}
use Rattle.sm_answers.specs.Status.{status_number, Says}
use Rattle.sm_replies.specs.Check.{AnswersCheck}
use Rattle.sm_words.specs.declared.effort.Effort.{Effort}

-- the first line of a text, without its end
abbrev pub first_line : List ℕ → List ℕ
first_line [] = []
first_line (byte ∷ bytes) = if byte == 10 then [] else byte ∷ first_line bytes

-- a line, and the status of its answer
abbrev pub Line : Type 0
Line = Status × List ℕ

-- what is answered to a file: why it gives no task, where it could be read; or what `check` answers
-- to the task that it gives, whose proof is written
abbrev pub AnswersFile : Known → Effort → ℕ → Status → List ℕ → Type 0
AnswersFile file effort count status text =
    (GivesNoTask file count count status text × (status ≢ ReadFault))
    ⊎ ((t : Parts) × GivesTask file count count t × AnswersCheck t effort status text)

-- the line is the first of that
pub record IsLineOf (file : Known) (effort : Effort) (count : ℕ) (line : Line) : Type 0 where
  pub text : List ℕ
  pub answers : AnswersFile file effort count line.0 text
  pub first : line.1 ≡ first_line text

-- the lines with their numbers, from this one on
abbrev pub numbered : ℕ → List (List ℕ) → List ℕ
numbered n [] = []
numbered n (line ∷ lines) = numbered_line n line ++ numbered (suc n) lines

-- whether one of the lines has the status
abbrev pub has_status : Status → List Status → Bool
has_status wanted statuses =
    list_any (λ (s : Status). status_number s == status_number wanted) statuses

-- the status of a batch, by those of its lines: a conflict goes before what is refused, and that
-- before what isn't decided; else all are accepted
abbrev pub status_of_all : List Status → Status
status_of_all statuses =
    if has_status Conflict statuses then Conflict else
    (if has_status Refused statuses then Refused else
    (if has_status Unknown statuses then Unknown else Accepted))

-- one of the files couldn't be read
pub record FailsToReadOne (files : List ℕ → Known) (names : List (List ℕ)) (before now : ℕ)
    (status : Status) (text : List ℕ) : Type 0 where
  pub name : List ℕ
  pub named : Contains names name
  pub fails : FailsToRead (files name) before now status text

-- each of the files is answered by a line
pub record AnswersAll (files : List ℕ → Known) (names : List (List ℕ)) (effort : Effort)
    (before now : ℕ) (status : Status) (text : List ℕ) : Type 0 where
  pub quiet : now ≡ before
  pub lines : List Line
  pub each : AllZip (λ (name : List ℕ) (line : Line). IsLineOf (files name) effort before line)
      names lines
  pub says : Says (status_of_all (map (λ (l : Line). l.0) lines))
      (numbered 1 (map (λ (l : Line). l.1) lines)) status text

-- the file gives a list, and then come the files that it names
pub record AnswersList (files : List ℕ → Known) (list : List ℕ) (effort : Effort)
    (before now : ℕ) (status : Status) (text : List ℕ) : Type 0 where
  pub names : List (List ℕ)
  pub between : ℕ
  pub gives : GivesList (files list) before between names
  pub answers : FailsToReadOne files names between now status text
      ⊎ AnswersAll files names effort between now status text

-- what is answered to `batch`
abbrev pub Batches : (List ℕ → Known) → List ℕ → Effort → ℕ → ℕ → Status → List ℕ → Type 0
Batches files list effort before now status text =
    GivesNoList (files list) before now status text
    ⊎ AnswersList files list effort before now status text
