-- What is answered by what the reads of a command gave, of told files and of others. Only private
-- clauses cite it; `HeadlineRead` says what follows of Accepted and Conflict.
use Rattle.std.specs.Prelude.{◌≢◌, ◌⊎◌, ℕ, List, Option, Some, None}
use Rattle.sm_io.specs.Reads.{Read}
use Rattle.sm_syntax.specs.text.Parts.{Parts}
use Rattle.sm_commands.specs.Why.{AnswersTask}
use Rattle.sm_replies.specs.HeadlineBatch.{AcceptsSafeRead}
use Rattle.sm_files.specs.Trim.{TrimsByReads}
use Rattle.sm_words.specs.Words.{Asked, check, verify, replay, print, suggest, gen, explain, batch, trim, about}
use Rattle.sm_words.specs.declared.effort.Effort.{Effort}
use Rattle.sm_answers.specs.declared.status.Status.{Status}
use Rattle.sm_answers.specs.declared.status.Status.TheVariants.{Accepted, Conflict}
use Rattle.sm_answers.specs.Readings.{ReadsTask, ReplaysRead, VerifiesRead}
use Rattle.sm_display.specs.Readings.{ExplainsRead}
use Rattle.sm_replies.specs.Suggest.{ProposesRead}

-- the answer of `check`: neither Accepted nor Conflict, or that to the task that was read
abbrev pub ChecksRead : List ℕ → Effort → List Read → List Read → Status → List ℕ → Type 0
ChecksRead task effort before now status text =
    ((status ≢ Accepted) × (status ≢ Conflict))
    ⊎ ((t : Parts) × ReadsTask task before now t × AnswersTask t effort status text)

-- the answer to what is asked for, or to words that ask for nothing
abbrev pub AnswersByReads : Option Asked → List Read → List Read → Status → List ℕ → Type 0
AnswersByReads (Some (check task proof effort)) before now status text =
    ChecksRead task effort before now status text
AnswersByReads (Some (verify task proof workers)) before now status text =
    VerifiesRead task proof before now status text
AnswersByReads (Some (replay task input turns)) before now status text =
    ReplaysRead task input turns before now status text
AnswersByReads (Some (print task copy)) before now status text = Unit {0}
AnswersByReads (Some (suggest task effort)) before now status text =
    ProposesRead task effort before now status text
AnswersByReads (Some (gen seed size effort)) before now status text = Unit {0}
AnswersByReads (Some (explain task input turns)) before now status text =
    ExplainsRead task input turns before now status text
AnswersByReads (Some (batch list cache effort)) before now status text =
    AcceptsSafeRead list before now text
AnswersByReads (Some (trim task proof out)) before now status text =
    TrimsByReads task proof before now status text
AnswersByReads (Some (about what)) before now status text = Unit {0}
AnswersByReads None before now status text = Unit {0}
