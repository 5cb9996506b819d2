use Rattle.std.proofs.Common.{◌+◌, ◌*◌, max}
use Rattle.sm_syntax.specs.declared.tree.Expr.{size-Expr}
use Rattle.sm_term.proofs.symbolic.+terms.Given as goal

abbrev pub decreases-made_term : goal.decreases-made_term
decreases-made_term l = 3 * size-Expr l.e.now

abbrev pub decreases-made_pair : goal.decreases-made_pair
decreases-made_pair l = 3 * max (size-Expr l.d.now) (size-Expr l.e.now) + 2

abbrev pub decreases-made_terms : goal.decreases-made_terms
decreases-made_terms l = 3 * max (size-Expr l.d.now) (size-Expr l.e.now) + 1
