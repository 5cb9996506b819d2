-- What is answered where the time that was given is over. Public clauses cite it.
use Rattle.std.specs.Prelude.{◌≡◌, ℕ, List, Some, codes}
use Rattle.sm_answers.specs.Status.{Says}
use Rattle.sm_answers.specs.declared.status.Status.{Status}
use Rattle.sm_answers.specs.declared.status.Status.TheVariants.{Unknown}
use Rattle.sm_words.specs.declared.effort.Effort.{Effort}

-- so many seconds were given, and it is said that they are over, and nothing else
pub record RunsOut (effort : Effort) (status : Status) (text : List ℕ) : Type 0 where
  pub seconds : ℕ
  pub given : effort.seconds ≡ Some seconds
  pub says : Says Unknown (codes "Unknown Seconds\n") status text
