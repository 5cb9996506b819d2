-- Cited by public clauses: the states at which the nodes of a plan stand, in preorder.
use Rattle.std.specs.Prelude.{ℕ, suc, ◌+◌, Option, Some, None, List, [], ◌∷◌, ◌++◌}
use Rattle.sm_plan.specs.Nodes.{Opened, opened_by}
use Rattle.sm_plan.specs.Plans.{Plan, At, Plans, Over, More, size}
use Rattle.sm_plan.specs.States.{State}

-- the states that a node opens, where it fits
abbrev pub states_opened : Option Opened → List State
states_opened None = []
states_opened (Some q) = q.states

abbrev mutual
  -- the state of each node of a plan, of which the first has number k and stands at a state
  pub plan_states : ℕ → State → Plan → List State
  plan_states k st (At node ps) =
      st ∷ plans_states (suc k) (states_opened (opened_by k st node)) ps

  -- the states of the nodes of plans, each plan at its state, of which the first has number k
  pub plans_states : ℕ → List State → Plans → List State
  plans_states k states Over = []
  plans_states k [] (More p ps) = []
  plans_states k (st ∷ states) (More p ps) =
      plan_states k st p ++ plans_states (k + size p) states ps
