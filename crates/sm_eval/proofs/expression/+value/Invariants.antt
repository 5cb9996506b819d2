use Rattle.std.proofs.Common.{◌+◌, ◌*◌, max}
use Rattle.sm_syntax.specs.declared.tree.Expr.{size-Expr}
use Rattle.sm_eval.proofs.expression.+value.Given as goal

abbrev pub decreases-value : goal.decreases-value
decreases-value l = 2 * size-Expr l.e.now

abbrev pub decreases-compute_both : goal.decreases-compute_both
decreases-compute_both l = 2 * max (size-Expr l.d.now) (size-Expr l.e.now) + 1
