use Rattle.std.proofs.Common.{◌+◌, ◌*◌, max}
use Rattle.sm_syntax.specs.declared.tree.Expr.{size-Expr}
use Rattle.sm_text.proofs.printing.expressions.+put_expression.Given as goal

abbrev pub decreases-put_expr : goal.decreases-put_expr
decreases-put_expr l = 3 * size-Expr l.e.now

abbrev pub decreases-put_element : goal.decreases-put_element
decreases-put_element l = 3 * size-Expr l.i.now + 1

abbrev pub decreases-put_operand : goal.decreases-put_operand
decreases-put_operand l = 3 * size-Expr l.e.now + 1

abbrev pub decreases-put_operands : goal.decreases-put_operands
decreases-put_operands l = 3 * max (size-Expr l.d.now) (size-Expr l.e.now) + 2
