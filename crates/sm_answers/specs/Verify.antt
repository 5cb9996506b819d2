-- What `verify` answers to a task and a proof file: whether the file passes for the task, or its
-- first bad line. Public clauses cite it.
use Rattle.std.specs.Prelude.{◌≡◌, ◌≢◌, ◌≤◌, ◌⊎◌, ℕ, List, [], ◌∷◌, codes, decimal}
use Rattle.sm_check.specs.Files.{FileAnswer, Judged, OverLong, file_answer}
use Rattle.sm_answers.specs.File.{FailsToRead, GivesTask, GivesNoTask, Status, Accepted, Refused}
use Rattle.sm_words.specs.Lines.{line_of}
use Rattle.sm_answers.specs.Status.{Says}
use Rattle.sm_io.specs.Files.{Known, absent, WhereHeld}
use Rattle.sm_proof.specs.HeadWords.{word_text}
use Rattle.sm_proof.specs.Verdicts.{Pass, Rejected, subject_of}
use Rattle.sm_proof.specs.declared.word.Word.{Word}
use Rattle.sm_syntax.specs.claim.ConflictFree.{ConflictFree}
use Rattle.sm_syntax.specs.text.Parts.{Parts, task_of}

-- the greatest number of bytes of a proof file
abbrev pub proof_limit : ℕ
proof_limit = 268435456

-- the status with which a proof file is answered
abbrev pub answer_status : FileAnswer → Status
answer_status (Judged Pass) = Accepted
answer_status (Judged (Rejected n word)) = Refused
answer_status OverLong = Refused

-- the line on the first bad line of a proof, by its number, from 1, and the word for what is wrong
abbrev pub rejected_line : ℕ → Word → List ℕ
rejected_line n word = line_of (codes "Rejected") (decimal n ∷ word_text word ∷ [])

-- the line with which a proof file is answered
abbrev pub answer_line : FileAnswer → List ℕ
answer_line (Judged Pass) = codes "Accepted\n"
answer_line (Judged (Rejected n word)) = rejected_line n word
answer_line OverLong = line_of (codes "TooLong") (codes "proof" ∷ [])

-- the file was read as far as its answer needs: where the shelf tells the file's bytes, the answer
-- is theirs; and where it is that the file passes, the task is free of conflicts on every shelf.
-- Only a bad line may be found behind a read that failed
pub record JudgesProof (t : Parts) (file : Known) (before now : ℕ) (status : Status)
    (text : List ℕ) : Type 0 where
  pub answer : FileAnswer
  pub there : file ≢ absent
  pub later : before ≤ now
  pub quiet : ((n : ℕ) (word : Word) → answer ≢ Judged (Rejected n word)) → now ≡ before
  pub held : WhereHeld file (λ (bytes : List ℕ).
      file_answer proof_limit (subject_of t) bytes ≡ answer)
  pub free : answer ≡ Judged Pass → ConflictFree (task_of t)
  pub says : Says (answer_status answer) (answer_line answer) status text

-- what is answered to a task and a proof file
abbrev pub AnswersProof : Parts → Known → ℕ → ℕ → Status → List ℕ → Type 0
AnswersProof t file before now status text =
    FailsToRead file before now status text ⊎ JudgesProof t file before now status text

-- the file gives a task, and then comes the proof's
pub record VerifiesTask (file proof : Known) (before now : ℕ) (status : Status) (text : List ℕ)
    : Type 0 where
  pub task : Parts
  pub between : ℕ
  pub gives : GivesTask file before between task
  pub answers : AnswersProof task proof between now status text

-- what is answered to `verify`
abbrev pub Verifies : Known → Known → ℕ → ℕ → Status → List ℕ → Type 0
Verifies file proof before now status text =
    GivesNoTask file before now status text ⊎ VerifiesTask file proof before now status text
