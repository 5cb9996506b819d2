-- Cited by public clauses: the linear forms of all terms of a table.
use Rattle.std.specs.Prelude.{◌≡◌, ℕ, List, length}
use Rattle.sm_num.specs.Forms.{Linear}
use Rattle.sm_term.specs.Terms.{Tree}
use Rattle.sm_theory.specs.Standing.{AreLinearForms}

-- forms of all terms, each at the place of its term
pub record AreAllForms (trees : List Tree) (forms : List (Linear ℕ)) : Type 0 where
  pub each : AreLinearForms trees forms
  pub counted : length forms ≡ length trees
