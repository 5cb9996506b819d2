-- Cited by public clauses: branches whose forms have no solution by the exact decision.
use Rattle.std.specs.Prelude.{◌≡◌, ℕ, ◌≤◌, None, List}
use Rattle.sm_num.specs.Forms.{Linear}
use Rattle.sm_omega.specs.Counting.{Done}
use Rattle.sm_omega.specs.Exact.{exact}
use Rattle.sm_judge.specs.Holding.{Seen}
use Rattle.sm_judge.specs.Refutations.{AreSources}
use Rattle.sm_judge.specs.declared.forms.Source.{Source}

-- the forms of these sources have no solution, which takes so many steps of the exact decision to
-- find, and no more than a line may tell
pub record AreDecided (b : Seen) (sources : List Source) (count : ℕ) : Type 0 where
  pub forms : List (Linear ℕ)
  pub from : AreSources b sources forms
  pub decided : exact forms count ≡ Done count None
  pub few : count ≤ 1000000
