-- What is answered by what the reads of a command gave, of told files and of others. Only private
-- clauses cite it; `HeadlineRead` says what follows of Accepted and Conflict.
use Rattle.std.specs.Prelude.{◌≢◌, ◌⊎◌, ℕ, List, Option, Some, None, ◌≡◌, ◌<◌, ◌≤◌, Bool, true, false}
use Rattle.sm_io.specs.Reads.{Read}
use Rattle.sm_syntax.specs.text.Parts.{Parts, task_of}
use Rattle.sm_words.specs.declared.effort.Effort.{Effort}
use Rattle.sm_answers.specs.Readings.{ReadsTask}
use Rattle.sm_houdini.specs.Outcomes as outcome
use Rattle.sm_houdini.specs.Outcomes.{Outcome, IsOutcome}
use Rattle.sm_io.specs.Files.{Known}
use Rattle.sm_replay.specs.declared.verdict.Verdict.{Verdict}
use Rattle.sm_suggest.specs.Combinations.{choices, combination, combination_count, hole_count}
use Rattle.sm_suggest.specs.First.{AllRefused, IsFirst}
use Rattle.sm_syntax.specs.claim.ConflictFree.{ConflictFree}
use Rattle.sm_syntax.specs.text.Spells.{Spells}
use Rattle.sm_answers.specs.File.{GivesNoTask, GivesTask}
use Rattle.sm_answers.specs.declared.status.Status.{Status}
use Rattle.sm_answers.specs.declared.status.Status.TheVariants.{Accepted, Conflict, Refused, Unknown}
use Rattle.sm_answers.specs.Lines.{many_holes_line, none_line, suggestion_line}
use Rattle.sm_answers.specs.Status.{Says}
use Rattle.sm_replies.specs.Check.{reach_of}
use Rattle.sm_replies.specs.Seconds.{RunsOut}

-- whether a search accepts, by what it comes to
abbrev pub is_accepted : Outcome (ℕ × Verdict) → Bool
is_accepted outcome.Accepted = true
is_accepted (outcome.Conflict found) = false
is_accepted (outcome.Open node goal) = false
is_accepted (outcome.Steps node goal) = false
is_accepted (outcome.Coefficient node goal op y z) = false
is_accepted outcome.TooMany = false

-- the decision on a task: whether its search accepts, which is so only where it is free of conflicts
pub record Decides (t : Parts) (effort : Effort) (answer : Bool) : Type 0 where
  pub outcome : Outcome (ℕ × Verdict)
  pub found : IsOutcome t (reach_of effort) effort.turns outcome
  pub is : answer ≡ is_accepted outcome
  pub free : answer ≡ true → ConflictFree (task_of t)

-- the first combination that is accepted is suggested; or none is, and each was refused
abbrev pub SaysSuggestion : Parts → Effort → Option ℕ → Status → List ℕ → Type 0
SaysSuggestion t effort (Some k) status text =
    IsFirst (λ (u : Parts) (answer : Bool). Decides u effort answer) t k
    × Says Accepted (suggestion_line (choices (hole_count t) k)) status text
SaysSuggestion t effort None status text =
    AllRefused (λ (u : Parts) (answer : Bool). Decides u effort answer) t
    × Says Unknown none_line status text

-- what is answered to a task: more than 8 holes are refused, and the time for it may be over
abbrev pub AnswersSuggest : Parts → Effort → Status → List ℕ → Type 0
AnswersSuggest t effort status text =
    ((8 < hole_count t) × Says Refused (many_holes_line (hole_count t)) status text)
    ⊎ (((hole_count t ≤ 8) × (found : Option ℕ) × SaysSuggestion t effort found status text)
    ⊎ RunsOut effort status text)

-- the answer of `suggest`: neither Accepted nor Conflict, or that to the task that was read
abbrev pub ProposesRead : List ℕ → Effort → List Read → List Read → Status → List ℕ → Type 0
ProposesRead task effort before now status text =
    ((status ≢ Accepted) × (status ≢ Conflict))
    ⊎ ((t : Parts) × ReadsTask task before now t × AnswersSuggest t effort status text)

-- the file gives a task, to which `suggest` answers
pub record SuggestsTask (file : Known) (effort : Effort) (before now : ℕ) (status : Status)
    (text : List ℕ) : Type 0 where
  pub task : Parts
  pub gives : GivesTask file before now task
  pub answers : AnswersSuggest task effort status text

-- what is answered to `suggest`
abbrev pub Suggests : Known → Effort → ℕ → ℕ → Status → List ℕ → Type 0
Suggests file effort before now status text =
    GivesNoTask file before now status text ⊎ SuggestsTask file effort before now status text

-- Accepted of `suggest`: the bytes spell a task, and the text is the line of a combination of its
-- fillings with which it is free of conflicts
abbrev pub IsSafeSuggestion : List ℕ → List ℕ → Type 0
IsSafeSuggestion text bytes = (t : Parts) × Spells bytes t
    × (k : ℕ) × (k < combination_count t) × ConflictFree (task_of (combination t k))
    × (text ≡ suggestion_line (choices (hole_count t) k))
