-- Private: the nodes of the whole plan, as they are put together.
use Rattle.std.specs.Prelude.{ℕ, if◌then◌else◌, List, [], ◌∷◌}
use Rattle.sm_syntax.specs.claim.Syntax.{Code}
use Rattle.sm_expand.specs.declared.plan.Simple.{Simple}
use Rattle.sm_expand.specs.declared.plan.Simple.TheVariants as simple
use Rattle.sm_plan.specs.Statements.{is_over}
use Rattle.sm_moves.specs.CodeShapes.{own_statements}

-- the node of all statements of a copy, where it has any
abbrev pub summary_nodes : ℕ → Code → List Simple
summary_nodes copy c = if is_over c then [] else simple.Abs copy (own_statements c) ∷ []
