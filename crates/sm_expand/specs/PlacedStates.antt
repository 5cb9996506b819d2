-- Cited by public clauses: states with places in a plan, from which the plan is gone on.
use Rattle.std.specs.Prelude.{ℕ, ◌+◌, List, [], ◌∷◌}
use Rattle.sm_term.specs.Tables.{TableValue, trees_in, sorts_in}
use Rattle.sm_plan.specs.ReadyStates.{IsStateReady}
use Rattle.sm_plan.specs.declared.opening.Successor.{Successor}
pub use Rattle.sm_expand.specs.declared.placed.PlacedState.{PlacedState}
use Rattle.sm_expand.specs.Cursors.{numbered_at, Cursor}
use Rattle.sm_expand.specs.NumberedPlans.{IsPlanReady}
use Rattle.sm_expand.specs.Walks.{size_of}

-- a state can be gone on from at its place
pub record IsPlacedReady (v : TableValue) (x : PlacedState) : Type 0 where
  pub state : IsStateReady (sorts_in v) (trees_in v) x.state
  pub plan : IsPlanReady (sorts_in v) (trees_in v) (numbered_at x.cursor)

-- each of some states can
abbrev pub ArePlacedReady : TableValue → List PlacedState → Type 0
ArePlacedReady v [] = Unit {0}
ArePlacedReady v (x ∷ xs) = IsPlacedReady v x × ArePlacedReady v xs

-- how many nodes states have before them
abbrev pub weight : List PlacedState → ℕ
weight [] = 0
weight (x ∷ xs) = size_of (numbered_at x.cursor) + weight xs

-- states that follow a node, each with its place in the plan
abbrev pub placed_with : List Successor → List Cursor → List PlacedState
placed_with [] cs = []
placed_with (s ∷ ss) [] = []
placed_with (s ∷ ss) (c ∷ cs) = record { state = s.state; cursor = c } ∷ placed_with ss cs
