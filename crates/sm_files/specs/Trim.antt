-- What `trim` answers to a task and a proof file. Public clauses cite it.
use Rattle.std.specs.Prelude.{◌≡◌, ◌≢◌, ◌⊎◌, ◌<◌, ◌≤◌, ℕ, List, [], ◌∷◌, length, codes, decimal}
use Rattle.sm_io.specs.Files.{Known, absent, WhereHeld, emptied, longer}
use Rattle.sm_io.specs.Reads.{Read, ReadsWhole}
use Rattle.sm_proof.specs.Verdicts.{Pass, Rejected, Passes, lines_in, subject_of, verdict}
use Rattle.sm_proof.specs.declared.word.Word.{Word}
use Rattle.sm_prune.specs.UsedLines.{HasUsedLines}
use Rattle.sm_syntax.specs.text.Parts.{Parts}
use Rattle.sm_write.specs.Versions.{HasVersion}
use Rattle.sm_answers.specs.File.{FailsToRead, GivesNoTask, GivesTask}
use Rattle.sm_answers.specs.declared.status.Status.{Status}
use Rattle.sm_answers.specs.declared.status.Status.TheVariants.{Accepted, Unknown, Refused, WriteFault}
use Rattle.sm_answers.specs.Readings.{ReadsTask}
use Rattle.sm_answers.specs.Status.{Says}
use Rattle.sm_answers.specs.Verify.{rejected_line}
use Rattle.sm_files.specs.ProofFile.{IsTaskIn, LeftCut}
use Rattle.sm_words.specs.Lines.{line_of}

-- the greatest number of bytes of a proof that is trimmed
abbrev pub trim_limit : ℕ
trim_limit = 16777216

-- the line on a proof that was trimmed, by how many lines it had and how many it has
abbrev pub trimmed_line : ℕ → ℕ → List ℕ
trimmed_line before after = line_of (codes "Trimmed") (decimal before ∷ decimal after ∷ [])

-- the line on a proof that passes, and of which no trimmed one was made
abbrev pub untrimmed_line : List ℕ
untrimmed_line = line_of (codes "Unknown") (codes "Untrimmed" ∷ [])

-- how many ended lines bytes have
abbrev pub line_count : List ℕ → ℕ
line_count bytes = length (lines_in bytes).ended

-- the proof's file was read, and these are its bytes: where the shelf tells the file's bytes, those
pub record IsProofRead (file : Known) (before now : ℕ) (bytes : List ℕ) : Type 0 where
  pub there : file ≢ absent
  pub quiet : now ≡ before
  pub held : WhereHeld file (λ (held : List ℕ). held ≡ bytes)
  pub within : length bytes ≤ trim_limit

-- it has too many bytes
pub record IsProofTooLong (file : Known) (before now : ℕ) (status : Status) (text : List ℕ)
    : Type 0 where
  pub there : file ≢ absent
  pub quiet : now ≡ before
  pub over : WhereHeld file (λ (held : List ℕ). trim_limit < length held)
  pub says : Says Refused (line_of (codes "TooLong") (codes "proof" ∷ [])) status text

-- the proof's file gives no bytes, and the answer says why
abbrev pub GivesNoProof : Known → ℕ → ℕ → Status → List ℕ → Type 0
GivesNoProof file before now status text =
    FailsToRead file before now status text ⊎ IsProofTooLong file before now status text

-- its bytes are no proof that passes: the number of the first bad line, and the word for it
pub record RejectsBytes (t : Parts) (bytes : List ℕ) (status : Status) (text : List ℕ) : Type 0 where
  pub number : ℕ
  pub word : Word
  pub judged : verdict (subject_of t) bytes ≡ Rejected number word
  pub says : Says Refused (rejected_line number word) status text

-- a proof that passes was trimmed: another passes, each line of which is used, and the counts of lines
-- of both are told
pub record TrimsBytes (t : Parts) (bytes : List ℕ) (status : Status) (text : List ℕ) : Type 0 where
  pub lean : List ℕ
  pub passes : Passes t lean
  pub used : HasUsedLines (subject_of t) lean
  pub says : Says Accepted (trimmed_line (line_count bytes) (line_count lean)) status text

-- what is answered to bytes that pass: they are trimmed, or no trimmed ones were made, or these
-- couldn't be written
abbrev pub AnswersPassing : Parts → List ℕ → Status → List ℕ → Type 0
AnswersPassing t bytes status text =
    TrimsBytes t bytes status text
    ⊎ (Says Unknown untrimmed_line status text ⊎ Says WriteFault (codes "WriteFault\n") status text)

-- what is answered to the bytes of a proof's file
abbrev pub AnswersTrim : Parts → List ℕ → Status → List ℕ → Type 0
AnswersTrim t bytes status text =
    RejectsBytes t bytes status text
    ⊎ ((verdict (subject_of t) bytes ≡ Pass) × AnswersPassing t bytes status text)

-- the file was read, and this is the answer to its bytes
pub record TrimsRead (t : Parts) (file : Known) (before now : ℕ) (status : Status)
    (text : List ℕ) : Type 0 where
  pub bytes : List ℕ
  pub read : IsProofRead file before now bytes
  pub answers : AnswersTrim t bytes status text

-- what is answered to a task and a proof's file
abbrev pub TrimsProof : Parts → Known → ℕ → ℕ → Status → List ℕ → Type 0
TrimsProof t file before now status text =
    GivesNoProof file before now status text ⊎ TrimsRead t file before now status text

-- the file gives a task, and then comes the proof's
pub record TrimsTask (file proof : Known) (before now : ℕ) (status : Status) (text : List ℕ)
    : Type 0 where
  pub task : Parts
  pub between : ℕ
  pub gives : GivesTask file before between task
  pub answers : TrimsProof task proof between now status text

-- what is answered to `trim`
abbrev pub Trims : Known → Known → ℕ → ℕ → Status → List ℕ → Type 0
Trims file proof before now status text =
    GivesNoTask file before now status text ⊎ TrimsTask file proof before now status text

-- the file was emptied, and has the bytes of a proof as `check` leaves one for the task, each line of
-- which is used
pub record HoldsTrimmed (t : Parts) (before now : Known) : Type 0 where
  pub proof : List ℕ
  pub passes : Passes t proof
  pub version : HasVersion t proof
  pub used : HasUsedLines (subject_of t) proof
  pub holds : now ≡ longer (emptied before) proof

-- the file holds such a proof, and the text tells how many lines that has
pub record TellsTrimmed (t : Parts) (text : List ℕ) (before now : Known) : Type 0 where
  pub held : HoldsTrimmed t before now
  pub lines : ℕ
  pub told : text ≡ trimmed_line lines (line_count held.proof)

-- what Accepted says of the file that is written, for the task of a file
abbrev pub TellsOfTask : Known → Status → List ℕ → Known → Known → Type 0
TellsOfTask task status text before now =
    status ≡ Accepted → (t : Parts) × IsTaskIn task t × TellsTrimmed t text before now

-- what is left in the file by the answer to the task: such a proof where it is accepted, at most a
-- front of a proof where that couldn't be written, and otherwise what it had
abbrev pub LeftTrimmed : Parts → Status → Known → Known → Type 0
LeftTrimmed t status before now =
    ((status ≡ Accepted) × HoldsTrimmed t before now)
    ⊎ (((status ≡ WriteFault) × LeftCut t before now) ⊎ ((status ≢ Accepted) × (now ≡ before)))

-- what is left there by the answer to the task of a file
abbrev pub LeavesTrimmed : Known → Status → Known → Known → Type 0
LeavesTrimmed task status before now =
    ((status ≢ Accepted) × (now ≡ before))
    ⊎ ((t : Parts) × IsTaskIn task t × LeftTrimmed t status before now)

-- the answer of `trim` by what was read: Accepted only where a task was read, and then a proof that
-- passes for it
abbrev pub TrimsByReads : List ℕ → List ℕ → List Read → List Read → Status → List ℕ → Type 0
TrimsByReads task proof before now status text =
    status ≡ Accepted → (t : Parts) × (between : List Read) × (bytes : List ℕ)
    × ReadsTask task before between t × ReadsWhole proof between now bytes × Passes t bytes
    × (length bytes ≤ trim_limit)
