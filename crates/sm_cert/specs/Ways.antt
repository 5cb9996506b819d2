-- Cited by public clauses: what the functions for one line do, by the ways in which the branch goes
-- on after it.
use Rattle.std.specs.Prelude.{Bool, true, false, Option, Some, None, List, [], ◌∷◌, ◌++◌}
use Rattle.sm_syntax.specs.text.Sorts.{Sorts}
use Rattle.sm_term.specs.Terms.{Tree}
use Rattle.sm_theory.specs.Facts.{BranchFact}
use Rattle.sm_theory.specs.Ways.{Ways}
use Rattle.sm_theory.specs.Views.{AllStand}
use Rattle.sm_theory.specs.declared.fact.Fact.{Fact}

-- a branch stands for the facts with those of the one way behind them, or there isn't one way
abbrev pub GoesOn : Sorts → List Tree → Bool → List Fact → List BranchFact → Ways → Type 0
GoesOn sorts trees true path facts None = ⊥
GoesOn sorts trees true path facts (Some []) = ⊥
GoesOn sorts trees true path facts (Some (way ∷ [])) = AllStand sorts trees path (facts ++ way)
GoesOn sorts trees true path facts (Some (way ∷ other ∷ rest)) = ⊥
GoesOn sorts trees false path facts None = Unit {0}
GoesOn sorts trees false path facts (Some []) = Unit {0}
GoesOn sorts trees false path facts (Some (way ∷ [])) = ⊥
GoesOn sorts trees false path facts (Some (way ∷ other ∷ rest)) = Unit {0}

-- whether there is no way
abbrev pub is_closed : Ways → Bool
is_closed None = false
is_closed (Some []) = true
is_closed (Some (way ∷ rest)) = false

-- two facts stand for those of the two ways, or there aren't two ways
abbrev pub SplitsInto : Sorts → List Tree → Option (Fact × Fact) → Ways → Type 0
SplitsInto sorts trees None None = Unit {0}
SplitsInto sorts trees None (Some []) = Unit {0}
SplitsInto sorts trees None (Some (way ∷ [])) = Unit {0}
SplitsInto sorts trees None (Some (way ∷ other ∷ [])) = ⊥
SplitsInto sorts trees None (Some (way ∷ other ∷ third ∷ rest)) = Unit {0}
SplitsInto sorts trees (Some p) None = ⊥
SplitsInto sorts trees (Some p) (Some []) = ⊥
SplitsInto sorts trees (Some p) (Some (way ∷ [])) = ⊥
SplitsInto sorts trees (Some p) (Some (way ∷ other ∷ [])) =
    AllStand sorts trees (p.0 ∷ []) way × AllStand sorts trees (p.1 ∷ []) other
SplitsInto sorts trees (Some p) (Some (way ∷ other ∷ third ∷ rest)) = ⊥
