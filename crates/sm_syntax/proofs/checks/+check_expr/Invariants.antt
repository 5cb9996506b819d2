use Rattle.sm_syntax.proofs.Imports.{◌+◌, ◌*◌, max, size-Expr}
use Rattle.sm_syntax.proofs.checks.+check_expr.Given as goal

abbrev pub decreases-check_expr : goal.decreases-check_expr
decreases-check_expr l = 2 * size-Expr l.e.now

abbrev pub decreases-check_two : goal.decreases-check_two
decreases-check_two l = 2 * max (size-Expr l.d.now) (size-Expr l.e.now) + 1
