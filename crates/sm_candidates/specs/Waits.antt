-- Private: places of a plan that wait, with their states.
use Rattle.std.specs.Prelude.{List, [], ◌∷◌}
use Rattle.sm_term.specs.Tables.{TableValue, trees_in, sorts_in}
use Rattle.sm_plan.specs.ReadyStates.{IsStateReady}
use Rattle.sm_expand.specs.NumberedPlans.{IsPlanReady}
use Rattle.sm_expand.specs.Cursors.{numbered_at}
use Rattle.sm_expand.specs.declared.cursor.Cursor.{Cursor}
use Rattle.sm_candidates.specs.declared.walking.Waiting.{Waiting}

-- a place from which its plan can be gone on
abbrev pub IsPlaceReady : TableValue → Cursor → Type 0
IsPlaceReady v c = IsPlanReady (sorts_in v) (trees_in v) (numbered_at c)

-- places from which their plans can be gone on
abbrev pub ArePlacesReady : TableValue → List Cursor → Type 0
ArePlacesReady v [] = Unit {0}
ArePlacesReady v (c ∷ cs) = IsPlaceReady v c × ArePlacesReady v cs

-- a state that waits can be gone on from, at its place
pub record IsWaitingReady (v : TableValue) (w : Waiting) : Type 0 where
  pub state : IsStateReady (sorts_in v) (trees_in v) w.state
  pub place : IsPlaceReady v w.cursor

-- each state that waits can be gone on from
abbrev pub AreWaitingReady : TableValue → List Waiting → Type 0
AreWaitingReady v [] = Unit {0}
AreWaitingReady v (w ∷ ws) = IsWaitingReady v w × AreWaitingReady v ws
