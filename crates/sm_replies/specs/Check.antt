-- What `check` answers to a task: what its search comes to. Public clauses cite it.
use Rattle.std.specs.Prelude.{◌≡◌, ◌⊎◌, ◌++◌, ℕ, List, [], ◌∷◌, codes}
use Rattle.std.specs.Fmt.{signed_decimal}
use Rattle.serde_json.specs.Data.{Members, object}
use Rattle.serde_json.specs.Written.{compact_text}
use Rattle.sm_eval.specs.StoredValues.{meaning}
use Rattle.sm_eval.specs.declared.store.Store as code
use Rattle.sm_houdini.specs.Outcomes as outcome
use Rattle.sm_houdini.specs.Outcomes.{Outcome, IsOutcome}
use Rattle.sm_replay.specs.Input.{IsInput}
use Rattle.sm_replay.specs.Trials.{trial, SomeTrialMeets}
use Rattle.sm_replay.specs.declared.verdict.Verdict.{Verdict}
use Rattle.sm_replay.specs.InputText.{AreWritten}
use Rattle.sm_replay.specs.declared.verdict.Verdict.TheVariants as verdict
use Rattle.sm_solve.specs.declared.reach.Reach.{Reach}
use Rattle.sm_syntax.specs.claim.ConflictFree.{ConflictFree}
use Rattle.sm_syntax.specs.claim.Stores.{Store}
use Rattle.sm_syntax.specs.text.Parts.{Parts, sort_of, task_of}
use Rattle.sm_answers.specs.Lines.{goal_line, input_line, op_word, too_many_line, trial_line, unmet_line}
use Rattle.sm_answers.specs.Status.{Says}
use Rattle.sm_words.specs.declared.effort.Effort.{Effort}
use Rattle.sm_answers.specs.declared.status.Status.{Status}
use Rattle.sm_answers.specs.declared.status.Status.TheVariants.{Accepted, Conflict, Unknown}

-- the text is an input of the task that gives the store, in compact JSON of each declared name
pub record IsInputText (t : Parts) (s : Store) (text : List ℕ) : Type 0 where
  pub store : code.Store
  pub reads : IsInput t.names (sort_of t.declared) text store
  pub gives : meaning store ≡ s
  pub members : Members
  pub compact : text ≡ compact_text (object members)
  pub written : AreWritten t.names (sort_of t.declared) s members

-- the input with a number, from a store, is named, with the cell and clause at which it violates,
-- and its text
abbrev pub ShowsFrom : Parts → ℕ → Store → Verdict → Status → List ℕ → Type 0
ShowsFrom t j s verdict.Holds status text = ⊥
ShowsFrom t j s verdict.Unmet status text = ⊥
ShowsFrom t j s (verdict.Violates name index clause) status text = (input : List ℕ)
    × IsInputText t s input
    × Says Conflict (trial_line t.names j name index clause ++ input_line input) status text

-- the trial is named, with the first cell and clause at which it violates, and its input
abbrev pub ShowsTrial : Parts → ℕ → Verdict → Status → List ℕ → Type 0
ShowsTrial t j v status text = ShowsFrom t j (trial (sort_of t.declared) j) v status text

-- the note after an answer: a line exactly where no trial meets the assumption
abbrev pub IsNote : Parts → List ℕ → Type 0
IsNote t note =
    let meets = SomeTrialMeets (task_of t) (sort_of t.declared) in
    (meets × (note ≡ [])) ⊎ ((¬ meets) × (note ≡ unmet_line))

-- the reply has this status, with this line and the note
abbrev pub SaysNoted : Parts → Status → List ℕ → Status → List ℕ → Type 0
SaysNoted t wanted line status text = (note : List ℕ) × IsNote t note
    × Says wanted (line ++ note) status text

-- what is said of what a search comes to; only a task that is free of conflicts is accepted
abbrev pub SaysOutcome : Parts → Outcome (ℕ × Verdict) → Status → List ℕ → Type 0
SaysOutcome t outcome.Accepted status text =
    ConflictFree (task_of t) × SaysNoted t Accepted (codes "Accepted\n") status text
SaysOutcome t (outcome.Conflict found) status text = ShowsTrial t found.0 found.1 status text
SaysOutcome t (outcome.Open node goal) status text =
    SaysNoted t Unknown (goal_line (codes "Open") node goal []) status text
SaysOutcome t (outcome.Steps node goal) status text =
    SaysNoted t Unknown (goal_line (codes "Steps") node goal []) status text
SaysOutcome t (outcome.Coefficient node goal op y z) status text =
    SaysNoted t Unknown
    (goal_line (codes "Coefficient") node goal
    (op_word op ∷ signed_decimal y ∷ signed_decimal z ∷ [])) status text
SaysOutcome t outcome.TooMany status text = SaysNoted t Unknown too_many_line status text

-- how far each walk of a search goes
abbrev pub reach_of : Effort → Reach
reach_of effort = record { steps = effort.steps; exact = effort.exact }

-- what is answered to a task
pub record AnswersCheck (t : Parts) (effort : Effort) (status : Status) (text : List ℕ) : Type 0 where
  pub outcome : Outcome (ℕ × Verdict)
  pub found : IsOutcome t (reach_of effort) effort.turns outcome
  pub says : SaysOutcome t outcome status text
