-- Cited by public clauses: the plans, obligations and faults that the program's own stand for.
use Rattle.std.specs.Prelude.{◌≡◌, Result, Err, List, [], ◌∷◌, map}
use Rattle.sm_syntax.specs.text.Parts.{by_copy}
use Rattle.sm_syntax.specs.text.Sorts.{Sorts}
use Rattle.sm_term.specs.Terms.{Tree}
use Rattle.sm_term.specs.Formulas.{numbered}
use Rattle.sm_plan.specs.Plans as plain
use Rattle.sm_plan.specs.ReadyStates.{AreFormsReady}
use Rattle.sm_plan.specs.Views.{forms_in}
pub use Rattle.sm_expand.specs.declared.due.Due.{Due}
use Rattle.sm_expand.specs.declared.fault.PlanFault.{PlanFault}
use Rattle.sm_expand.specs.declared.fault.PlanFault.TheVariants as fault
use Rattle.sm_expand.specs.declared.plan.Last.{Last, Last-F, fold-Last}
use Rattle.sm_expand.specs.declared.plan.Last.TheOpen as layer
use Rattle.sm_expand.specs.declared.plan.Plan.{Plan-F, fold-Plan}
pub use Rattle.sm_expand.specs.declared.plan.Plan.{Plan, fold_out-Plan}
use Rattle.sm_expand.specs.declared.plan.Plans.{Plans-F}
pub use Rattle.sm_expand.specs.declared.plan.Plans.{Plans, fold-Plans, fold-roll-Plans, fold_out-Plans, out-Plans, roll-Plans}
pub use Rattle.sm_expand.specs.declared.plan.Simple.{Simple}
use Rattle.sm_expand.specs.declared.plan.Simple.TheVariants as simple
use Rattle.sm_expand.specs.NumberedPlans.{NumberedNode, Step, Abs, Fork, Loop, Block, Dead, Ends, NumberedPlan, At, Over, More, plans_before, plan_over}

-- a simple node
abbrev pub simple_node : Simple → NumberedNode
simple_node (simple.Step copy) = Step copy
simple_node (simple.Abs copy n) = Abs copy n

-- simple nodes one under another, and a plan under them
abbrev pub straight_before : List Simple → NumberedPlan → NumberedPlan
straight_before [] p = p
straight_before (s ∷ rest) p = At (simple_node s) (More (straight_before rest p) Over)

-- a last node, where the plans below it are told
abbrev pub last_layer : Last-F NumberedPlan NumberedPlan (List NumberedPlan) → NumberedPlan
last_layer (layer.Fork copy one other) =
    At (Fork copy) (More one.value (More other.value Over))
last_layer (layer.Loop set keep turns after) =
    At (Loop set (numbered keep)) (plans_before turns (More after.value Over))
last_layer (layer.Block k0 k1 k2 k3 keep inner after) =
    At (Block (by_copy k0 k1 k2 k3) (numbered keep)) (More inner.value (More after.value Over))
last_layer layer.Dead = At Dead Over
last_layer layer.End = At Ends Over

-- a plan, where that of its last node is told
abbrev pub plan_layer : Plan-F NumberedPlan NumberedPlan (List NumberedPlan) → NumberedPlan
plan_layer p = straight_before p.straight.list.items p.last

-- plans, where each is told
abbrev pub plans_layer : Plans-F NumberedPlan NumberedPlan (List NumberedPlan) → List NumberedPlan
plans_layer ps = ps.list.items

-- the plan that one of the program stands for, over numbers of terms
abbrev pub numbered_plan : Plan → NumberedPlan
numbered_plan =
    fold-Plan NumberedPlan NumberedPlan (List NumberedPlan) last_layer plan_layer plans_layer

-- the plan that a last node of one of the program stands for, over numbers of terms
abbrev pub numbered_last : Last → NumberedPlan
numbered_last =
    fold-Last NumberedPlan NumberedPlan (List NumberedPlan) last_layer plan_layer plans_layer

-- the plan over the trees of a table
abbrev pub plan_in : Sorts → List Tree → Plan → plain.Plan
plan_in sorts trees p = plan_over sorts trees (numbered_plan p)

-- what a node asks
abbrev pub due_in : Sorts → List Tree → Due → plain.Due
due_in sorts trees d = record {
  node = d.node;
  facts = forms_in sorts trees d.facts.list.items;
  goals = forms_in sorts trees d.targets.list.items;
  is_final = d.last;
}

-- what a plan asks
abbrev pub dues_in : Sorts → List Tree → List Due → List plain.Due
dues_in sorts trees ds = map (due_in sorts trees) ds

-- the formulas of obligations are in a table, each part with the sort that it is used with
abbrev pub AreDuesReady : Sorts → List Tree → List Due → Type 0
AreDuesReady sorts trees [] = Unit {0}
AreDuesReady sorts trees (d ∷ ds) =
    AreFormsReady sorts trees d.facts.list.items × AreFormsReady sorts trees d.targets.list.items
    × AreDuesReady sorts trees ds

-- a fault tells why a plan has no obligations; want of memory tells nothing
abbrev pub FaultTells : PlanFault → Result (List plain.Due) plain.Fault → Type 0
FaultTells (fault.Wrong node rule) dues = dues ≡ Err (plain.Wrong node rule)
FaultTells fault.Deep dues = dues ≡ Err plain.Deep
FaultTells fault.Memory dues = Unit {0}
