-- What the program answers: a status and a text, by its words and by what the shelf tells of the
-- files that they name. The count of read faults of the shelf was `before`, and is `now`. Public
-- clauses cite it.
use Rattle.std.specs.Prelude.{◌≡◌, ◌≢◌, ◌⊎◌, ◌<◌, ℕ, List, Option, Some, None, length, take}
use Rattle.sm_io.specs.Files.{Known}
use Rattle.sm_io.specs.Sinks.{Adds}
use Rattle.sm_proof.specs.declared.word.Word.{Word}
use Rattle.sm_syntax.specs.text.Parts.{Parts}
use Rattle.sm_answers.specs.File.{GivesTask, GivesNoTask}
use Rattle.sm_answers.specs.declared.status.Status.{Status}
use Rattle.sm_answers.specs.declared.status.Status.TheVariants.{Accepted, Refused, Usage, Memory, SinkFault}
use Rattle.sm_replies.specs.Batch.{Batches}
use Rattle.sm_replies.specs.Gen.{AnswersGenInTime}
use Rattle.sm_commands.specs.Why.{AnswersTask}
use Rattle.sm_files.specs.ProofFile.{LeavesFront, LeavesProof}
use Rattle.sm_replies.specs.Suggest.{Suggests}
use Rattle.sm_files.specs.Trim.{LeavesTrimmed, TellsOfTask, Trims}
use Rattle.sm_answers.specs.Replay.{Replays}
use Rattle.sm_answers.specs.Status.{Says}
use Rattle.sm_answers.specs.Verify.{rejected_line, Verifies}
use Rattle.sm_display.specs.Explain.{Explains}
use Rattle.sm_display.specs.Print.{Prints}
use Rattle.sm_words.specs.About.{about_text}
use Rattle.sm_words.specs.Words.{Words, Asked, check, verify, replay, print, suggest, gen, explain, batch, trim, about, asked, usage_line, IsUsage}
use Rattle.sm_words.specs.declared.effort.Effort.{Effort}
use Rattle.sm_words.specs.declared.about.About.{About}

-- what a shelf tells of each file
abbrev pub Files : Type 0
Files = List ℕ → Known

-- no file changes
abbrev pub IsUnchanged : Files → Files → Type 0
IsUnchanged before now = (name : List ℕ) → now name ≡ before name

-- no command takes the words, and the answer says so
pub record RefusesWords (words : Words) (before now : ℕ) (status : Status) (text : List ℕ)
    : Type 0 where
  pub refused : IsUsage words
  pub quiet : now ≡ before
  pub says : Says Usage (usage_line words) status text

-- the file gives a task, to which `check` answers
pub record ChecksTask (file : Known) (effort : Effort) (before now : ℕ) (status : Status)
    (text : List ℕ) : Type 0 where
  pub task : Parts
  pub gives : GivesTask file before now task
  pub answers : AnswersTask task effort status text

-- what is answered to `check`
abbrev pub Checks : Known → Effort → ℕ → ℕ → Status → List ℕ → Type 0
Checks file effort before now status text =
    GivesNoTask file before now status text ⊎ ChecksTask file effort before now status text

-- what is answered to `gen`
pub record Generates (seed size : ℕ) (effort : Effort) (before now : ℕ) (status : Status)
    (text : List ℕ) : Type 0 where
  pub quiet : now ≡ before
  pub answers : AnswersGenInTime seed size effort status text

-- what the program says of itself
pub record Tells (what : About) (before now : ℕ) (status : Status) (text : List ℕ) : Type 0 where
  pub quiet : now ≡ before
  pub says : Says Accepted (about_text what) status text

-- what is answered to what is asked for
abbrev pub AnswersCommand : Asked → Files → ℕ → ℕ → Status → List ℕ → Type 0
AnswersCommand (check task proof effort) files before now status text =
    Checks (files task) effort before now status text
AnswersCommand (verify task proof workers) files before now status text =
    Verifies (files task) (files proof) before now status text
AnswersCommand (replay task input turns) files before now status text =
    Replays (files task) (files input) turns before now status text
AnswersCommand (print task copy) files before now status text =
    Prints (files task) copy before now status text
AnswersCommand (suggest task effort) files before now status text =
    Suggests (files task) effort before now status text
AnswersCommand (gen seed size effort) files before now status text =
    Generates seed size effort before now status text
AnswersCommand (explain task input turns) files before now status text =
    Explains files task input turns before now status text
AnswersCommand (batch list cache effort) files before now status text =
    Batches files list effort before now status text
AnswersCommand (trim task proof out) files before now status text =
    Trims (files task) (files proof) before now status text
AnswersCommand (about what) files before now status text = Tells what before now status text

-- what is left in the files by the answer to what is asked for: `check` and `trim` alone write, and to
-- the file of the proof that they make alone
abbrev pub LeavesFiles : Asked → Files → Status → Files → Type 0
LeavesFiles (check task proof effort) before status now =
    ((other : List ℕ) → other ≢ proof → now other ≡ before other)
    × LeavesProof (before task) status (before proof) (now proof)
LeavesFiles (verify task proof workers) before status now = IsUnchanged before now
LeavesFiles (replay task input turns) before status now = IsUnchanged before now
LeavesFiles (print task copy) before status now = IsUnchanged before now
LeavesFiles (suggest task effort) before status now = IsUnchanged before now
LeavesFiles (gen seed size effort) before status now = IsUnchanged before now
LeavesFiles (explain task input turns) before status now = IsUnchanged before now
LeavesFiles (batch list cache effort) before status now = IsUnchanged before now
LeavesFiles (trim task proof out) before status now =
    ((other : List ℕ) → other ≢ out → now other ≡ before other)
    × LeavesTrimmed (before task) status (before out) (now out)
LeavesFiles (about what) before status now = IsUnchanged before now

-- what the text of an answer tells of the file that is written: that of `trim`, how many lines it has
abbrev pub TellsFiles : Asked → Files → Status → List ℕ → Files → Type 0
TellsFiles (check task proof effort) before status text now = Unit {0}
TellsFiles (verify task proof workers) before status text now = Unit {0}
TellsFiles (replay task input turns) before status text now = Unit {0}
TellsFiles (print task copy) before status text now = Unit {0}
TellsFiles (suggest task effort) before status text now = Unit {0}
TellsFiles (gen seed size effort) before status text now = Unit {0}
TellsFiles (explain task input turns) before status text now = Unit {0}
TellsFiles (batch list cache effort) before status text now = Unit {0}
TellsFiles (trim task proof out) before status text now =
    TellsOfTask (before task) status text (before out) (now out)
TellsFiles (about what) before status text now = Unit {0}

-- what may be left in the files where memory is wanting
abbrev pub LeavesPart : Asked → Files → Files → Type 0
LeavesPart (check task proof effort) before now =
    ((other : List ℕ) → other ≢ proof → now other ≡ before other)
    × LeavesFront (before task) (before proof) (now proof)
LeavesPart (verify task proof workers) before now = IsUnchanged before now
LeavesPart (replay task input turns) before now = IsUnchanged before now
LeavesPart (print task copy) before now = IsUnchanged before now
LeavesPart (suggest task effort) before now = IsUnchanged before now
LeavesPart (gen seed size effort) before now = IsUnchanged before now
LeavesPart (explain task input turns) before now = IsUnchanged before now
LeavesPart (batch list cache effort) before now = IsUnchanged before now
LeavesPart (trim task proof out) before now =
    ((other : List ℕ) → other ≢ out → now other ≡ before other)
    × LeavesFront (before task) (before out) (now out)
LeavesPart (about what) before now = IsUnchanged before now

-- what is answered to words that ask for this, or for nothing
abbrev pub AnswersRequest : Option Asked → Words → Files → ℕ → ℕ → Status → List ℕ → Type 0
AnswersRequest None words files before now status text = RefusesWords words before now status text
AnswersRequest (Some ask) words files before now status text =
    AnswersCommand ask files before now status text

-- the status and the text are the answer to the words
abbrev pub IsAnswerTo : Words → Files → ℕ → ℕ → Status → List ℕ → Type 0
IsAnswerTo words files before now status text =
    AnswersRequest (asked words) words files before now status text

-- what is left in the files by the answer to words that ask for this, or for nothing
abbrev pub LeavesBy : Option Asked → Files → Status → Files → Type 0
LeavesBy None before status now = IsUnchanged before now
LeavesBy (Some ask) before status now = LeavesFiles ask before status now

-- what the text of an answer to words tells of it
abbrev pub TellsBy : Option Asked → Files → Status → List ℕ → Files → Type 0
TellsBy None before status text now = Unit {0}
TellsBy (Some ask) before status text now = TellsFiles ask before status text now

-- what words that ask for this, or for nothing, may leave in the files where memory is wanting
abbrev pub LeavesPartBy : Option Asked → Files → Files → Type 0
LeavesPartBy None before now = IsUnchanged before now
LeavesPartBy (Some ask) before now = LeavesPart ask before now

-- the file of the proof that is to be written isn't that of the task, nor of the proof that is given
abbrev pub WritesElsewhere : Asked → Type 0
WritesElsewhere (check task proof effort) = task ≢ proof
WritesElsewhere (verify task proof workers) = Unit {0}
WritesElsewhere (replay task input turns) = Unit {0}
WritesElsewhere (print task copy) = Unit {0}
WritesElsewhere (suggest task effort) = Unit {0}
WritesElsewhere (gen seed size effort) = Unit {0}
WritesElsewhere (explain task input turns) = Unit {0}
WritesElsewhere (batch list cache effort) = Unit {0}
WritesElsewhere (trim task proof out) = (task ≢ out) × (proof ≢ out)
WritesElsewhere (about what) = Unit {0}

-- the words ask for `verify`
abbrev pub AsksToVerify : Words → Type 0
AsksToVerify words =
    (task : List ℕ) × (proof : List ℕ) × (workers : ℕ)
    × (asked words ≡ Some (verify task proof workers))

-- `verify` printed that a line of the proof is bad
pub record RejectsProof (words : Words) (status : Status) (before now : Option (List ℕ))
    : Type 0 where
  pub to_verify : AsksToVerify words
  pub refused : status ≡ Refused
  pub number : ℕ
  pub word : Word
  pub printed : Adds before now (rejected_line number word)

-- an answer with this status was printed whole
abbrev pub IsPrinted : Status → Type 0
IsPrinted status = (status ≢ Memory) × (status ≢ SinkFault)

-- bytes from the front of an answer's text were put, but not all of them
pub record PutsPart (Gives : Status → List ℕ → Type 0) (before now : Option (List ℕ)) : Type 0 where
  pub status : Status
  pub text : List ℕ
  pub gives : Gives status text
  pub count : ℕ
  pub part : count < length text
  pub adds : Adds before now (take count text)
