-- What an input shows against a merge, beyond the trials that are stated. Public clauses cite it.
-- That it is found says nothing of the way, and nothing follows where none is found.
use Rattle.std.specs.Prelude.{◌≡◌, ◌≤◌, ℕ, Ok}
use Rattle.sm_eval.specs.StoredValues.{meaning, sorts_of}
use Rattle.sm_guided.specs.declared.beyond.Shown.{Shown}
use Rattle.sm_replay.specs.declared.verdict.Verdict.TheVariants as verdict
use Rattle.sm_replay.specs.Verdicts.{Judges}
use Rattle.sm_replay.specs.Violations.{Violates}
use Rattle.sm_syntax.specs.text.Parts.{Parts, sort_of, task_of}

-- the input is a store of the declarations and no stated trial; it violates the condition, where
-- each loop takes at most so many turns, and does so first at the cell and in the part that are
-- given
pub record ShowsBeyond (t : Parts) (turns : ℕ) (shown : Shown) : Type 0 where
  pub beyond : 256 ≤ shown.number
  pub declared : sorts_of shown.input ≡ sort_of t.declared
  pub judged : Judges (task_of t) (meaning shown.input) turns
      (Ok (verdict.Violates shown.name shown.index shown.clause))
  pub violates : Violates (task_of t) (meaning shown.input) turns
