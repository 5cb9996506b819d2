-- What proofs of this crate name of definitions and of the lemmas of other crates.
pub use Rattle.std.proofs.Common.{List, [], ap, drop, get_or, length, map, subst, sym, ℕ, ◌*◌, ◌++◌, ◌+◌, ◌<◌, ◌∙◌, ◌∷◌, ◌≡◌, ◌≤◌}
pub use Rattle.sm_syntax.specs.claim.Syntax.{End}
pub use Rattle.sm_syntax.specs.declared.tree.Block.{Block, size-Block}
pub use Rattle.sm_syntax.specs.declared.tree.Stmt.{Stmt, size-Stmt}
pub use Rattle.sm_syntax.specs.text.Sorts.{IsWellSorted, Sorts}
pub use Rattle.sm_syntax.specs.trees.Views.{code_of, sequence, statement_of}
pub use Rattle.sm_eval.specs.StoredValues.{sorts_of}
pub use Rattle.sm_term.specs.Terms.{Tree}
pub use Rattle.sm_expand.specs.NumberedPlans.{ArePlansReady, IsKeepReady, IsPlanReady, More, NumberedPlan, Over, plans_before}
pub use Rattle.sm_expand.specs.Views.{last_layer, numbered_last, numbered_plan, plan_layer, plans_layer, simple_node, straight_before}
pub use Rattle.sm_expand.specs.declared.plan.Plan.{Plan}
