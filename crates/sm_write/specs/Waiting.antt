-- Private: states that wait for their nodes, each with its plan, as a plan is written node by node.
use Rattle.std.specs.Prelude.{◌≡◌, ℕ, ◌+◌, List, [], ◌∷◌, ◌++◌}
use Rattle.sm_syntax.specs.text.Sorts.{Sorts}
use Rattle.sm_cert.specs.Certificates.{Certificate}
use Rattle.sm_plan.specs.Plans.{Plan, Plans, Over, More, size}
use Rattle.sm_plan.specs.States.{State}
use Rattle.sm_proof.specs.Passing.{Pending, Due}
use Rattle.sm_write.specs.PlanStates.{plan_states}
use Rattle.sm_write.specs.Ready.{IsReady}

-- a state under so many branching nodes, with its plan
pub record Waits : Type 0 where
  pub state : State
  pub above : ℕ
  pub plan : Plan

-- what is pending then
abbrev pub due_for : Waits → Pending
due_for w = Due w.state w.above

-- states with plans for them
abbrev pub each_waits : ℕ → List State → Plans → List Waits
each_waits above [] ps = []
each_waits above (st ∷ states) Over = []
each_waits above (st ∷ states) (More p ps) =
    record { state = st; above = above; plan = p } ∷ each_waits above states ps

-- the plan of each is ready from node k on, and certificates are left
abbrev pub AreWaiting :
    Sorts → List State → ℕ → List Waits → List Certificate → List Certificate → Type 0
AreWaiting sorts seen k [] cs left = cs ≡ left
AreWaiting sorts seen k (w ∷ ws) cs left =
    (mid : List Certificate)
    × IsReady sorts seen w.above k w.state w.plan cs mid
    × AreWaiting sorts (seen ++ plan_states k w.state w.plan) (k + size w.plan) ws mid left
