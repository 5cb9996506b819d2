-- Cited by public clauses: what plans prove.
use Rattle.std.specs.Prelude.{bit_and, map, ◌==◌, ◌≡◌, ℕ, suc, Some, Ok, List}
use Rattle.std.specs.List.{filter, range_with_len}
use Rattle.sm_syntax.specs.claim.ConflictFree.{Task, ConflictFree}
use Rattle.sm_syntax.specs.text.Sorts.{Sorts}
use Rattle.sm_term.specs.Fresh.{AreFormsBelow}
use Rattle.sm_term.specs.Sorted.{AreFormsSorted}
use Rattle.sm_plan.specs.Copies.{Copies, subsets}
use Rattle.sm_plan.specs.Masks.{mask_of, set_of}
use Rattle.sm_plan.specs.States.{State, start_state}
use Rattle.sm_plan.specs.Nodes.{Node, Opened, opened_by, IsFreshAt}
use Rattle.sm_plan.specs.Plans.{Plan, nodes_of, Due, IsFresh, obligations, AllValid, AllDischarged}
use Rattle.sm_plan.specs.NodeLists.{NodesProve, start_pending}
use Rattle.sm_plan.specs.SoundStates.{IsSound, AreSound, IsStateBelow, AreStatesBelow}
use Rattle.sm_plan.specs.SortedStates.{IsStateSorted, AreStatesSorted, IsNodeSorted, IsTaskSorted}

-- one node: where its goals are valid and the states that it opens are sound, its own state is
abbrev pub NodeIsSound : Type 0
NodeIsSound =
    (k : ℕ) (st : State) (node : Node) (q : Opened) →
    IsStateBelow k st →
    IsFreshAt k node →
    opened_by k st node ≡ Some q →
    AllValid st.facts q.goals →
    AreSound q.states →
    IsSound st

-- the states that a node opens name no new value of a node after it
abbrev pub NodeStaysBelow : Type 0
NodeStaysBelow =
    (k : ℕ) (st : State) (node : Node) (q : Opened) →
    IsStateBelow k st →
    IsFreshAt k node →
    opened_by k st node ≡ Some q →
    AreStatesBelow (suc k) q.states

-- the goals of a node name no new value of a node after it
abbrev pub NodeGoalsBelow : Type 0
NodeGoalsBelow =
    (k : ℕ) (st : State) (node : Node) (q : Opened) →
    IsStateBelow k st →
    IsFreshAt k node →
    opened_by k st node ≡ Some q →
    AreFormsBelow (suc k) q.goals

-- the start of a task names no new value
abbrev pub StartIsBelow : Type 0
StartIsBelow = (t : Task) → IsStateBelow 0 (start_state t)

-- where the start of a task is sound, the task is free of conflicts
abbrev pub SoundStartIsFree : Type 0
SoundStartIsFree = (t : Task) → IsSound (start_state t) → ConflictFree t

-- where all obligations of a fresh plan hold in every structure, the task is free of conflicts
abbrev pub PlanIsSound : Type 0
PlanIsSound =
    (t : Task) (p : Plan) (ds : List Due) →
    IsFresh 0 p →
    obligations t p ≡ Ok ds →
    AllDischarged ds →
    ConflictFree t

-- where nodes prove the start of a task, the task is free of conflicts
abbrev pub NodesAreSound : Type 0
NodesAreSound =
    (t : Task) (nodes : List Node) → NodesProve 0 (start_pending t) nodes → ConflictFree t

-- the nodes of a fresh plan whose obligations hold, in preorder, prove the start of its task
abbrev pub PlanNodesProve : Type 0
PlanNodesProve =
    (t : Task) (p : Plan) (ds : List Due) →
    IsFresh 0 p →
    obligations t p ≡ Ok ds →
    AllDischarged ds →
    NodesProve 0 (start_pending t) (nodes_of p)

-- nodes that prove the start of a task are, in preorder, those of a fresh plan whose nodes all fit
-- their states and whose obligations hold
abbrev pub NodesArePlan : Type 0
NodesArePlan =
    (t : Task) (nodes : List Node) →
    NodesProve 0 (start_pending t) nodes →
    (p : Plan)
    × (ds : List Due)
    × (nodes_of p ≡ nodes)
    × IsFresh 0 p
    × (obligations t p ≡ Ok ds)
    × AllDischarged ds

-- the subsets of a set have ascending masks, and are those whose masks have no other bit
abbrev pub SubsetsAscend : Type 0
SubsetsAscend =
    (set : Copies) →
    map mask_of (subsets set)
    ≡ filter (λ (v : ℕ). bit_and v (mask_of set) == v) (range_with_len 1 15)

-- a set is that of its mask
abbrev pub MaskIsExact : Type 0
MaskIsExact = (set : Copies) → set_of (mask_of set) ≡ set

-- sorts are kept: what a node opens at a sorted state is sorted, and so are the goals that it asks
abbrev pub SortsAreKept : Type 0
SortsAreKept =
    (sorts : Sorts) (k : ℕ) (st : State) (node : Node) (q : Opened) →
    IsStateSorted sorts st →
    IsNodeSorted sorts node →
    opened_by k st node ≡ Some q →
    AreFormsSorted sorts q.goals × AreStatesSorted sorts q.states

-- the start of a sorted task is sorted
abbrev pub StartIsSorted : Type 0
StartIsSorted =
    (sorts : Sorts) (t : Task) → IsTaskSorted sorts t → IsStateSorted sorts (start_state t)
