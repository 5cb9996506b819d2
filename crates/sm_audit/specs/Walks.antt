-- Private: a plan that is walked node by node, with the states that wait for theirs.
use Rattle.std.specs.Prelude.{◌≡◌, ℕ, ◌+◌, Option, List, [], ◌∷◌, ◌++◌, drop, map}
use Rattle.sm_syntax.specs.text.Sorts.{Sorts}
use Rattle.sm_term.specs.Assertions.{Assertion}
use Rattle.sm_term.specs.Tables.{TableValue, trees_in, sorts_in}
use Rattle.sm_term.specs.Terms.{Tree}
use Rattle.sm_plan.specs.Nodes.{Node}
use Rattle.sm_plan.specs.Plans.{Plan, Plans, Over, More, size, nodes_of}
use Rattle.sm_plan.specs.ReadyStates.{IsStateReady}
use Rattle.sm_plan.specs.declared.opening.Successor.{Successor}
use Rattle.sm_plan.specs.States.{State}
use Rattle.sm_plan.specs.Views.{node_in, state_in}
use Rattle.sm_plan.specs.declared.node.NodeRow.{NodeRow}
use Rattle.sm_expand.specs.Cursors.{numbered_at}
use Rattle.sm_expand.specs.declared.cursor.Cursor.{Cursor}
use Rattle.sm_expand.specs.NumberedPlans.{plan_over, IsPlanReady}
use Rattle.sm_write.specs.PlanStates.{plan_states}
use Rattle.sm_expand.specs.declared.placed.PlacedState.{PlacedState}
use Rattle.sm_audit.specs.Since.{AreSince}

-- a state with the plan for it
pub record Waits : Type 0 where
  pub state : State
  pub plan : Plan

-- states with plans for them
abbrev pub each_waits : List State → Plans → List Waits
each_waits [] ps = []
each_waits (st ∷ states) Over = []
each_waits (st ∷ states) (More p ps) = record { state = st; plan = p } ∷ each_waits states ps

-- the states of their nodes, numbered from k on
abbrev pub states_left : ℕ → List Waits → List State
states_left k [] = []
states_left k (w ∷ ws) = plan_states k w.state w.plan ++ states_left (k + size w.plan) ws

-- a state of the program with a place in its plan stands for one with a plan, where it has some
-- facts
pub record StandsFor (v : TableValue) (w : Waits) (x : PlacedState) : Type 0 where
  pub facts : List Assertion
  pub state : w.state ≡ state_in (sorts_in v) (trees_in v) facts x.state
  pub plan : w.plan ≡ plan_over (sorts_in v) (trees_in v) (numbered_at x.cursor)

-- states of the program with places in their plans stand for those with plans, one by one
abbrev pub AllStandFor : TableValue → List Waits → List PlacedState → Type 0
AllStandFor v [] [] = Unit {0}
AllStandFor v [] (x ∷ xs) = ⊥
AllStandFor v (w ∷ ws) [] = ⊥
AllStandFor v (w ∷ ws) (x ∷ xs) = StandsFor v w x × AllStandFor v ws xs

-- the nodes of what waits
abbrev pub nodes_left : Sorts → List Tree → List PlacedState → List Node
nodes_left sorts trees [] = []
nodes_left sorts trees (x ∷ xs) =
    nodes_of (plan_over sorts trees (numbered_at x.cursor)) ++ nodes_left sorts trees xs

-- the nodes that were met, and then those of what waits
abbrev pub nodes_with : Sorts → List Tree → List NodeRow → List PlacedState → List Node
nodes_with sorts trees rows xs = map (node_in sorts trees) rows ++ nodes_left sorts trees xs

-- of the states of a plan's nodes the first k were met, and those of what waits are left; the
-- entries tell what can be named
pub record IsUnderway (states : List State) (v : TableValue) (k : ℕ) (since : List (Option ℕ))
    (xs : List PlacedState) : Type 0 where
  pub since_then : AreSince (sorts_in v) states (trees_in v) since
  pub waits : List Waits
  pub stand : AllStandFor v waits xs
  pub left : drop k states ≡ states_left k waits
