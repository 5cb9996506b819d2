-- Cited by public clauses: the plans that places in a plan stand for, and the rows of nodes.
use Rattle.std.specs.Prelude.{◌≡◌, ℕ, Option, Some, None, List}
use Rattle.sm_syntax.specs.text.Sorts.{Sorts}
use Rattle.sm_term.specs.Terms.{Tree}
use Rattle.sm_plan.specs.Nodes.{Unfit}
use Rattle.sm_plan.specs.Views.{node_in}
use Rattle.sm_plan.specs.declared.node.NodeRow.{NodeRow}
pub use Rattle.sm_expand.specs.declared.cursor.Cursor.{Cursor}
use Rattle.sm_expand.specs.NumberedPlans.{NumberedNode, NumberedPlan, node_over}
use Rattle.sm_expand.specs.Views.{straight_before, numbered_last}

-- the plan from a place on
abbrev pub numbered_at : Cursor → NumberedPlan
numbered_at c = straight_before c.straight.now (numbered_last c.last.now)

-- the row of a node; a node that has none fits no state
abbrev pub IsRowOf : Sorts → List Tree → NumberedNode → Option NodeRow → Type 0
IsRowOf sorts trees node None = (rule : ℕ) × (node_over sorts trees node ≡ Unfit rule)
IsRowOf sorts trees node (Some row) = node_over sorts trees node ≡ node_in sorts trees row
