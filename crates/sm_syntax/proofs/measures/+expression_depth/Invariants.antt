use Rattle.sm_syntax.proofs.Imports.{◌+◌, ◌*◌, max, size-Expr}
use Rattle.sm_syntax.proofs.measures.+expression_depth.Given as goal

abbrev pub decreases-depth_of_expr : goal.decreases-depth_of_expr
decreases-depth_of_expr l = 2 * size-Expr l.e.now

abbrev pub decreases-depth_of_two : goal.decreases-depth_of_two
decreases-depth_of_two l = 2 * max (size-Expr l.d.now) (size-Expr l.e.now) + 1
