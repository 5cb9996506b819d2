-- Cited by public clauses: a proof as a list of nodes. Each node takes the state that is pending
-- first, and the states that it opens take that one's place. Kept formulas are given, and goals are
-- valid: the lines of a proof file, which name terms by numbers and show each goal by a
-- certificate, are not spoken of here.
use Rattle.std.specs.Prelude.{◌≡◌, ℕ, suc, if◌then◌else◌, IsTrue, Some, List, [], ◌∷◌, ◌++◌, map}
use Rattle.sm_syntax.specs.claim.ConflictFree.{Task}
use Rattle.sm_plan.specs.Limits.{is_shallow}
use Rattle.sm_plan.specs.States.{State, start_state}
use Rattle.sm_plan.specs.Nodes.{Node, Opened, opened_by, is_branching, IsFreshAt}
use Rattle.sm_plan.specs.Plans.{AllValid}

-- a state that waits for its node, and how many branching nodes stand above that node
pub record Pending : Type 0 where
  pub state : State
  pub above : ℕ

-- how many branching nodes stand above what a node opens
abbrev pub above_opened : Node → ℕ → ℕ
above_opened node above = if is_branching node then suc above else above

-- states that wait with `above` branching nodes above them
abbrev pub pending_states : ℕ → List State → List Pending
pending_states above states = map (λ (st : State). record { state = st; above = above }) states

-- the states that wait
abbrev pub states_of : List Pending → List State
states_of pending = map (λ (p : Pending). p.state) pending

-- the start of a task, for which node 0 is due
abbrev pub start_pending : Task → List Pending
start_pending t = record { state = start_state t; above = 0 } ∷ []

-- the nodes, the first with number k, prove the pending states: each fits its state, opens nothing
-- with more than 1,000 branching nodes above it, is fresh and asks valid goals, and neither a state
-- nor a node is left
abbrev pub NodesProve : ℕ → List Pending → List Node → Type 0
NodesProve k [] [] = Unit {0}
NodesProve k [] (node ∷ nodes) = ⊥
NodesProve k (p ∷ pending) [] = ⊥
NodesProve k (p ∷ pending) (node ∷ nodes) =
    let above = above_opened node p.above in
    (q : Opened)
    × (opened_by k p.state node ≡ Some q)
    × IsTrue (is_shallow above)
    × IsFreshAt k node
    × AllValid p.state.facts q.goals
    × NodesProve (suc k) (pending_states above q.states ++ pending) nodes
