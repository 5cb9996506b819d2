-- What `check --why` answers: what `check` answers without it, and behind that in words why. Public
-- clauses cite it.
use Rattle.std.specs.Prelude.{◌≡◌, ◌⊎◌, ℕ, true, false, Some, List, ◌++◌}
use Rattle.sm_houdini.specs.Outcomes as outcome
use Rattle.sm_houdini.specs.Outcomes.{Outcome, IsOutcome}
use Rattle.sm_replay.specs.declared.verdict.Verdict.{Verdict}
use Rattle.sm_syntax.specs.claim.Stores.{Store}
use Rattle.sm_syntax.specs.text.Parts.{Parts}
use Rattle.sm_syntax.specs.text.Spells.{Spells}
use Rattle.sm_words.specs.declared.effort.Effort.{Effort}
use Rattle.sm_why.specs.Reasons.{IsReason}
use Rattle.sm_why.specs.Trials.{IsTrialsLine}
use Rattle.sm_why.specs.declared.stop.Stop.{Stop}
use Rattle.sm_answers.specs.declared.status.Status.{Status}
use Rattle.sm_answers.specs.declared.status.Status.TheVariants.{Accepted, Conflict, Unknown, Refused, Usage, ReadFault, Memory, WriteFault, SinkFault}
use Rattle.sm_display.specs.Shown.{ShowsEnds}
use Rattle.sm_replies.specs.Check.{reach_of, ShowsFrom}
use Rattle.sm_commands.specs.Deeper.{AnswersDeeper, FailsToWrite}
use Rattle.sm_replies.specs.Seconds.{RunsOut}
use Rattle.sm_replies.specs.Grounds.{stop_in}

-- behind an Unknown: the line on what the search stopped at, by a text of the task, and how many
-- trials ended
pub record SaysReason (t : Parts) (effort : Effort) (more : List ℕ) : Type 0 where
  pub outcome : Outcome (ℕ × Verdict)
  pub found : IsOutcome t (reach_of effort) effort.turns outcome
  pub stop : Stop
  pub stopped : stop_in outcome ≡ Some stop
  pub bytes : List ℕ
  pub spells : Spells bytes t
  pub reason : List ℕ
  pub says : IsReason bytes t stop reason
  pub trials : List ℕ
  pub counts : IsTrialsLine t effort.turns trials
  pub printed : more ≡ reason ++ trials

-- behind a Conflict: the ends of the four programs from the input that is shown, as `explain` has
-- them
pub record ShowsTable (t : Parts) (effort : Effort) (line more : List ℕ) : Type 0 where
  pub number : ℕ
  pub store : Store
  pub verdict : Verdict
  pub shows : ShowsFrom t number store verdict Conflict line
  pub ends : ShowsEnds t store effort.turns more

-- what stands behind an answer by its status: behind an Accepted how many trials ended
abbrev pub SaysWhy : Parts → Effort → Status → List ℕ → List ℕ → Type 0
SaysWhy t effort Accepted line more = IsTrialsLine t effort.turns more
SaysWhy t effort Conflict line more = ShowsTable t effort line more
SaysWhy t effort Unknown line more = SaysReason t effort more
SaysWhy t effort Refused line more = ⊥
SaysWhy t effort Usage line more = ⊥
SaysWhy t effort ReadFault line more = ⊥
SaysWhy t effort Memory line more = ⊥
SaysWhy t effort WriteFault line more = ⊥
SaysWhy t effort SinkFault line more = ⊥

-- it was asked for, and words stand behind the answer that comes without it
pub record Explained (t : Parts) (effort : Effort) (status : Status) (text : List ℕ) : Type 0 where
  pub asked : effort.why ≡ true
  pub line : List ℕ
  pub answers : AnswersDeeper t effort status line
  pub more : List ℕ
  pub says : SaysWhy t effort status line more
  pub printed : text ≡ line ++ more

-- what is answered to a task, with words behind it exactly where they were asked for
abbrev pub AnswersWhy : Parts → Effort → Status → List ℕ → Type 0
AnswersWhy t effort status text =
    ((effort.why ≡ false) × AnswersDeeper t effort status text) ⊎ Explained t effort status text

-- what is answered to a task, or that the time for it is over
abbrev pub AnswersInTime : Parts → Effort → Status → List ℕ → Type 0
AnswersInTime t effort status text = AnswersWhy t effort status text ⊎ RunsOut effort status text

-- what is answered to a task, or that the time is over, or that its proof couldn't be written whole
abbrev pub AnswersTask : Parts → Effort → Status → List ℕ → Type 0
AnswersTask t effort status text =
    AnswersInTime t effort status text ⊎ FailsToWrite t effort status text
