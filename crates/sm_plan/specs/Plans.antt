-- Cited by public clauses: plans as trees of nodes, and the obligations of a plan.
use Rattle.std.specs.Prelude.{ℕ, suc, ◌+◌, ◌==◌, Bool, ◌&&◌, if◌then◌else◌, max, Option, Some, None, Result, Ok, Err, List, [], ◌∷◌, ◌++◌, length}
use Rattle.sm_syntax.specs.claim.ConflictFree.{Task}
use Rattle.sm_term.specs.Assertions.{Assertion, IsValid}
use Rattle.sm_plan.specs.Limits.{is_shallow}
use Rattle.sm_plan.specs.States.{State, start_state}
use Rattle.sm_plan.specs.Nodes.{Node, Opened, opened_by, IsFreshAt, rule_of, is_branching, is_end}

mutual
  -- a node, and a plan for each state that it opens, in order
  pub data Plan : Type 0 where
    At : Node → Plans → Plan

  -- plans, one after the other
  pub data Plans : Type 0 where
    Over : Plans
    More : Plan → Plans → Plans

abbrev mutual
  -- how many nodes a plan has
  pub size : Plan → ℕ
  size (At node ps) = suc (sizes ps)

  -- how many nodes plans have together
  pub sizes : Plans → ℕ
  sizes Over = 0
  sizes (More p ps) = size p + sizes ps

-- how many plans there are
abbrev pub count : Plans → ℕ
count Over = 0
count (More p ps) = suc (count ps)

abbrev mutual
  -- the nodes of a plan in preorder
  pub nodes_of : Plan → List Node
  nodes_of (At node ps) = node ∷ all_nodes ps

  -- the nodes of plans in preorder, one plan after the other
  pub all_nodes : Plans → List Node
  all_nodes Over = []
  all_nodes (More p ps) = nodes_of p ++ all_nodes ps

abbrev mutual
  -- the most branching nodes on a path of a plan, from its first node down
  pub branches : Plan → ℕ
  branches (At node ps) = if is_branching node then suc (most_branches ps) else most_branches ps

  -- the most branching nodes on a path of one of some plans, from its first node down
  pub most_branches : Plans → ℕ
  most_branches Over = 0
  most_branches (More p ps) = max (branches p) (most_branches ps)

abbrev mutual
  -- each node of a plan, numbered in preorder from k on, is fresh
  pub IsFresh : ℕ → Plan → Type 0
  IsFresh k (At node ps) = IsFreshAt k node × AreFresh (suc k) ps

  -- each node of some plans, numbered in preorder from k on, is fresh
  pub AreFresh : ℕ → Plans → Type 0
  AreFresh k Over = Unit {0}
  AreFresh k (More p ps) = IsFresh k p × AreFresh (k + size p) ps

-- what a node asks: its goals, over the facts that they share, and whether they are final goals
pub record Due : Type 0 where
  pub node : ℕ
  pub facts : List Assertion
  pub goals : List Assertion
  pub is_final : Bool

-- why a plan has no obligations: the first node whose rule fails, or too many branching nodes above
-- a node
pub data Fault : Type 0 where
  Wrong : ℕ → ℕ → Fault
  Deep : Fault

-- the obligation of node k, where it has goals
abbrev pub due : ℕ → State → Node → List Assertion → List Due
due k st node [] = []
due k st node (g ∷ gs) =
    let is_final = is_end node && st.is_final in
    record { node = k; facts = st.facts; goals = g ∷ gs; is_final = is_final } ∷ []

-- the obligations of both, or the first fault
abbrev pub joined : Result (List Due) Fault → Result (List Due) Fault → Result (List Due) Fault
joined (Err w) later = Err w
joined (Ok ds) (Err w) = Err w
joined (Ok ds) (Ok es) = Ok (ds ++ es)

-- goes on with what a node opens
abbrev pub opened : Option Opened → Fault → (Opened → Result (List Due) Fault) →
    Result (List Due) Fault
opened None w f = Err w
opened (Some q) w f = f q

abbrev mutual
  -- the obligations of a plan whose first node has number k, or the first node whose rule fails; a
  -- node also fails  -- its rule where it hasn't one plan for each state that it opens
  pub expand : ℕ → State → Plan → Result (List Due) Fault
  expand k st (At node ps) =
      let w = Wrong k (rule_of node) in
      opened (opened_by k st node) w
      (λ (q : Opened).
      if count ps == length q.states
      then joined (Ok (due k st node q.goals)) (expand_all w (suc k) q.states ps)
      else Err w)

  -- the obligations of plans at states
  pub expand_all : Fault → ℕ → List State → Plans → Result (List Due) Fault
  expand_all w k [] Over = Ok []
  expand_all w k [] (More p ps) = Err w
  expand_all w k (st ∷ states) Over = Err w
  expand_all w k (st ∷ states) (More p ps) =
      joined (expand k st p) (expand_all w (k + size p) states ps)

-- the obligations of a task's plan
abbrev pub obligations : Task → Plan → Result (List Due) Fault
obligations t p = if is_shallow (branches p) then expand 0 (start_state t) p else Err Deep

-- each goal holds in every structure in which the facts do
abbrev pub AllValid : List Assertion → List Assertion → Type 0
AllValid facts [] = Unit {0}
AllValid facts (g ∷ gs) = IsValid facts g × AllValid facts gs

-- each goal of each obligation
abbrev pub AllDischarged : List Due → Type 0
AllDischarged [] = Unit {0}
AllDischarged (d ∷ ds) = AllValid d.facts d.goals × AllDischarged ds
