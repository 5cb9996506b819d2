-- Private: what is left to expand.
use Rattle.std.specs.Prelude.{ℕ, ◌+◌, ◌≤◌, Bool, Result, Ok, List, [], ◌∷◌, ◌++◌, length, map, take}
use Rattle.sm_syntax.specs.text.Sorts.{Sorts}
use Rattle.sm_term.specs.declared.formula.Formula.{Formula}
use Rattle.sm_term.specs.Assertions.{Assertion}
use Rattle.sm_term.specs.Tables.{TableValue, trees_in, sorts_in}
use Rattle.sm_term.specs.Terms.{Tree}
use Rattle.sm_plan.specs.Plans as plain
use Rattle.sm_plan.specs.ReadyStates.{IsStateReady, AreFormsReady}
use Rattle.sm_plan.specs.declared.opening.Successor.{Successor}
use Rattle.sm_plan.specs.States.{State}
use Rattle.sm_plan.specs.Views.{forms_in, state_in}
use Rattle.sm_expand.specs.declared.walk.Waiting.{Waiting}
use Rattle.sm_expand.specs.NumberedPlans as numbers
use Rattle.sm_expand.specs.NumberedPlans.{NumberedPlan, NumberedPlans, plan_over, IsPlanReady}
use Rattle.sm_expand.specs.Cursors.{numbered_at, Cursor}
use Rattle.sm_expand.specs.Views.{dues_in, AreDuesReady, Due}

-- what goals over facts are as an obligation, where there are any
abbrev pub asked : ℕ → List Assertion → Bool → List Assertion → List plain.Due
asked k facts is_final [] = []
asked k facts is_final (g ∷ gs) =
    record { node = k; facts = facts; goals = g ∷ gs; is_final = is_final } ∷ []

-- the obligations of states, each with its plan, from node k on
abbrev pub expand_pairs : ℕ → List (State × plain.Plan) → Result (List plain.Due) plain.Fault
expand_pairs k [] = Ok []
expand_pairs k (p ∷ rest) =
    plain.joined (plain.expand k p.0 p.1) (expand_pairs (k + plain.size p.1) rest)

-- the facts of a state that waits
abbrev pub facts_of : Sorts → List Tree → List Formula → Waiting → List Assertion
facts_of sorts trees path w =
    take w.shared (forms_in sorts trees path)
    ++ (forms_in sorts trees w.kept.value.list.items ++ forms_in sorts trees w.more.list.items)

-- the state, with its plan
abbrev pub waits_as : Sorts → List Tree → List Formula → Waiting → State × plain.Plan
waits_as sorts trees path w = (
  state_in sorts trees (facts_of sorts trees path w) w.state,
  plan_over sorts trees (numbered_at w.cursor),
)

-- what was asked by the nodes before k, and what the states that wait will ask
abbrev pub outcome : TableValue → List Due → ℕ → List Formula → List Waiting →
    Result (List plain.Due) plain.Fault
outcome t dues k path ws =
    let sorts = sorts_in t in let trees = trees_in t in
    plain.joined (Ok (dues_in sorts trees dues))
    (expand_pairs k (map (waits_as sorts trees path) ws))

-- each has no more of the path than the one before it
abbrev pub AreNested : ℕ → List Waiting → Type 0
AreNested most [] = Unit {0}
AreNested most (w ∷ ws) = (w.shared ≤ most) × AreNested w.shared ws

-- a state that waits can be gone on from
pub record IsWaitingReady (sorts : Sorts) (trees : List Tree) (w : Waiting) : Type 0 where
  pub state : IsStateReady sorts trees w.state
  pub kept : AreFormsReady sorts trees w.kept.value.list.items
  pub more : AreFormsReady sorts trees w.more.list.items
  pub plan : IsPlanReady sorts trees (numbered_at w.cursor)

-- each state that waits can be gone on from
abbrev pub AreWaitingReady : Sorts → List Tree → List Waiting → Type 0
AreWaitingReady sorts trees [] = Unit {0}
AreWaitingReady sorts trees (w ∷ ws) = IsWaitingReady sorts trees w × AreWaitingReady sorts trees ws

-- all that is at hand is ready: the path, what was asked, and the states that wait, nested
pub record IsReadyWith (t : TableValue) (path : List Formula) (dues : List Due)
    (ws : List Waiting) : Type 0 where
  pub facts : AreFormsReady (sorts_in t) (trees_in t) path
  pub asked : AreDuesReady (sorts_in t) (trees_in t) dues
  pub waiting : AreWaitingReady (sorts_in t) (trees_in t) ws
  pub nested : AreNested (length path) ws

-- how many nodes plans have, over numbers of terms
abbrev mutual
  pub size_of : NumberedPlan → ℕ
  size_of (numbers.At node ps) = 1 + sizes_of ps

  pub sizes_of : NumberedPlans → ℕ
  sizes_of numbers.Over = 0
  sizes_of (numbers.More p ps) = size_of p + sizes_of ps

-- how many nodes the states that wait have before them
abbrev pub weight : List Waiting → ℕ
weight [] = 0
weight (w ∷ ws) = size_of (numbered_at w.cursor) + weight ws

-- states that follow, each with its place in the plan
abbrev pub waits_with : ℕ → List Successor → List Cursor → List Waiting
waits_with shared [] cs = []
waits_with shared (s ∷ ss) [] = []
waits_with shared (s ∷ ss) (c ∷ cs) =
    record {
      shared = shared;
      kept = s.kept;
      more = s.more;
      state = s.state;
      cursor = c;
    } ∷ waits_with shared ss cs
