-- Cited by public clauses: plans over numbers of terms, and what they are over the trees of a
-- table.
use Rattle.std.specs.Prelude.{ℕ, nat_le, if◌then◌else◌, List, [], ◌∷◌, length}
use Rattle.sm_syntax.specs.claim.ConflictFree.{Copy, copy_of}
use Rattle.sm_syntax.specs.text.Sorts.{Sorts}
use Rattle.sm_term.specs.Terms.{Tree}
use Rattle.sm_term.specs.Formulas.{NumberedFormula, assertion_in, IsFormulaWithin}
use Rattle.sm_term.specs.Sorted.{IsFormSorted}
use Rattle.sm_plan.specs.Masks.{set_of}
use Rattle.sm_plan.specs.Nodes as plain
use Rattle.sm_plan.specs.Plans as tree

-- a node, with the numbers of its copy or of its set
pub data NumberedNode : Type 0 where
  Step : ℕ → NumberedNode
  Abs : ℕ → ℕ → NumberedNode
  Fork : ℕ → NumberedNode
  Loop : ℕ → NumberedFormula → NumberedNode
  Block : (Copy → ℕ) → NumberedFormula → NumberedNode
  Dead Ends : NumberedNode

mutual
  -- a node, and plans below it
  pub data NumberedPlan : Type 0 where
    At : NumberedNode → NumberedPlans → NumberedPlan

  -- plans, one after the other
  pub data NumberedPlans : Type 0 where
    Over : NumberedPlans
    More : NumberedPlan → NumberedPlans → NumberedPlans

-- the node of the copy with a number; where there is none, a node of the rule that fits no state
abbrev pub of_copy_or : ℕ → (Copy → plain.Node) → ℕ → plain.Node
of_copy_or rule node n = if nat_le n 3 then node (copy_of n) else plain.Unfit rule

-- a node over the trees of a table; a set of more than four copies fits no state
abbrev pub node_over : Sorts → List Tree → NumberedNode → plain.Node
node_over sorts trees (Step copy) = of_copy_or 1 plain.Step copy
node_over sorts trees (Abs copy n) = of_copy_or 2 (λ (c : Copy). plain.Abs c n) copy
node_over sorts trees (Fork copy) = of_copy_or 3 plain.Fork copy
node_over sorts trees (Loop set keep) =
    if nat_le set 15 then plain.Loop (set_of set) (assertion_in sorts trees keep)
    else plain.Unfit 4
node_over sorts trees (Block counts keep) = plain.Block counts (assertion_in sorts trees keep)
node_over sorts trees Dead = plain.Dead
node_over sorts trees Ends = plain.Ends

abbrev mutual
  -- a plan over the trees of a table
  pub plan_over : Sorts → List Tree → NumberedPlan → tree.Plan
  plan_over sorts trees (At node ps) =
      tree.At (node_over sorts trees node) (plans_over sorts trees ps)

  -- plans over the trees of a table
  pub plans_over : Sorts → List Tree → NumberedPlans → tree.Plans
  plans_over sorts trees Over = tree.Over
  plans_over sorts trees (More p ps) =
      tree.More (plan_over sorts trees p) (plans_over sorts trees ps)

-- the formula that a node keeps is in a table, and each part has the sort that it is used with
abbrev pub IsKeepReady : Sorts → List Tree → NumberedNode → Type 0
IsKeepReady sorts trees (Step copy) = Unit {0}
IsKeepReady sorts trees (Abs copy n) = Unit {0}
IsKeepReady sorts trees (Fork copy) = Unit {0}
IsKeepReady sorts trees (Loop set keep) =
    IsFormulaWithin (length trees) keep × IsFormSorted sorts (assertion_in sorts trees keep)
IsKeepReady sorts trees (Block counts keep) =
    IsFormulaWithin (length trees) keep × IsFormSorted sorts (assertion_in sorts trees keep)
IsKeepReady sorts trees Dead = Unit {0}
IsKeepReady sorts trees Ends = Unit {0}

abbrev mutual
  -- what each node of a plan keeps is in a table, and each part has the sort that it is used with
  pub IsPlanReady : Sorts → List Tree → NumberedPlan → Type 0
  IsPlanReady sorts trees (At node ps) = IsKeepReady sorts trees node × ArePlansReady sorts trees ps

  -- what each node of plans keeps is in a table, and each part has the sort that it is used with
  pub ArePlansReady : Sorts → List Tree → NumberedPlans → Type 0
  ArePlansReady sorts trees Over = Unit {0}
  ArePlansReady sorts trees (More p ps) = IsPlanReady sorts trees p × ArePlansReady sorts trees ps

-- the first node
abbrev pub head : NumberedPlan → NumberedNode
head (At node ps) = node

-- the plans below it
abbrev pub below : NumberedPlan → NumberedPlans
below (At node ps) = ps

-- plans as a list
abbrev pub list_of : NumberedPlans → List NumberedPlan
list_of Over = []
list_of (More p ps) = p ∷ list_of ps

-- a list of plans before others
abbrev pub plans_before : List NumberedPlan → NumberedPlans → NumberedPlans
plans_before [] qs = qs
plans_before (p ∷ ps) qs = More p (plans_before ps qs)
