-- What an answer rests on, from which is said why it comes. Only private clauses cite it.
use Rattle.std.specs.Prelude.{◌≡◌, ℕ, Some, List, Option, None}
use Rattle.sm_eval.specs.StoredValues.{meaning, sorts_of}
use Rattle.sm_houdini.specs.Outcomes.{Outcome, IsOutcome}
use Rattle.sm_replay.specs.declared.verdict.Verdict.{Verdict}
use Rattle.sm_syntax.specs.text.Parts.{Parts, sort_of}
use Rattle.sm_words.specs.declared.effort.Effort.{Effort}
use Rattle.sm_why.specs.declared.stop.Stop.{Stop}
use Rattle.sm_answers.specs.declared.status.Status.{Status}
use Rattle.sm_answers.specs.declared.status.Status.TheVariants.{Accepted, Conflict, Unknown}
use Rattle.sm_replies.specs.Check.{reach_of, ShowsFrom}
use Rattle.sm_replies.specs.declared.ground.Ground.{Ground}
use Rattle.sm_replies.specs.declared.ground.Ground.TheVariants.{Proved, Input, Stopped}
use Rattle.sm_houdini.specs.Outcomes as outcome
use Rattle.sm_why.specs.declared.stop.Manner.TheVariants.{Open, Steps, Coefficient}
use Rattle.sm_why.specs.declared.stop.Stop.TheVariants.{Goal, TooMany}

-- the answer is a Conflict, and the ground is an input of the task that it shows
abbrev pub IsShownBy : Parts → Status → List ℕ → Ground → Type 0
IsShownBy t status text Proved = ⊥
IsShownBy t status text (Input store) =
    (status ≡ Conflict) × (sorts_of store ≡ sort_of t.declared)
    × ((number : ℕ) × (v : Verdict) × ShowsFrom t number (meaning store) v status text)
IsShownBy t status text (Stopped stop) = ⊥

-- what a search that decides nothing stopped at
abbrev pub stop_in : Outcome (ℕ × Verdict) → Option Stop
stop_in outcome.Accepted = None
stop_in (outcome.Conflict found) = None
stop_in (outcome.Open node goal) = Some (Goal Open goal)
stop_in (outcome.Steps node goal) = Some (Goal Steps goal)
stop_in (outcome.Coefficient node goal op y z) = Some (Goal Coefficient goal)
stop_in outcome.TooMany = Some TooMany

-- a search comes to an outcome that stops there
pub record ComesToStop (t : Parts) (effort : Effort) (stop : Stop) : Type 0 where
  pub outcome : Outcome (ℕ × Verdict)
  pub found : IsOutcome t (reach_of effort) effort.turns outcome
  pub stopped : stop_in outcome ≡ Some stop

-- the answer rests on its ground
abbrev pub RestsOn : Parts → Effort → Status → List ℕ → Ground → Type 0
RestsOn t effort status text Proved = status ≡ Accepted
RestsOn t effort status text (Input store) = IsShownBy t status text (Input store)
RestsOn t effort status text (Stopped stop) = (status ≡ Unknown) × ComesToStop t effort stop
