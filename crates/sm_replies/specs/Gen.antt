-- What `gen` answers to a seed and a size: a line on the task that they make, and then what `check`
-- answers to that task. Public clauses cite it.
use Rattle.std.specs.Prelude.{◌≡◌, ◌⊎◌, ◌++◌, ℕ, List}
use Rattle.sm_gen.specs.Drawing.{edits, edit_count}
use Rattle.sm_gen.specs.Generating.{generated}
use Rattle.sm_syntax.specs.claim.ConflictFree.{A, B}
use Rattle.sm_replies.specs.Check.{AnswersCheck}
use Rattle.sm_replies.specs.Seconds.{RunsOut}
use Rattle.sm_answers.specs.Lines.{summary_line}
use Rattle.sm_words.specs.declared.effort.Effort.{Effort}
use Rattle.sm_answers.specs.declared.status.Status.{Status}

-- what is answered to a seed and a size
pub record AnswersGen (seed size : ℕ) (effort : Effort) (status : Status) (text : List ℕ) : Type 0 where
  pub answer : List ℕ
  pub answers : AnswersCheck (generated seed size) effort status answer
  pub printed : let drawn = edits seed size in
      text ≡ summary_line seed size (edit_count A drawn) (edit_count B drawn) ++ answer

-- what is answered to a seed and a size, or that the time for it is over
abbrev pub AnswersGenInTime : ℕ → ℕ → Effort → Status → List ℕ → Type 0
AnswersGenInTime seed size effort status text =
    AnswersGen seed size effort status text ⊎ RunsOut effort status text
