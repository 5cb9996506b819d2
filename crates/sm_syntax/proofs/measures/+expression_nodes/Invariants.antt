use Rattle.sm_syntax.proofs.Imports.{◌+◌, ◌*◌, max, size-Expr}
use Rattle.sm_syntax.proofs.measures.+expression_nodes.Given as goal

abbrev pub decreases-nodes_of_expr : goal.decreases-nodes_of_expr
decreases-nodes_of_expr l = 2 * size-Expr l.e.now

abbrev pub decreases-nodes_of_two : goal.decreases-nodes_of_two
decreases-nodes_of_two l = 2 * max (size-Expr l.d.now) (size-Expr l.e.now) + 1
