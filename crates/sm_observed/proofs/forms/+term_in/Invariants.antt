-- The parts of an expression are smaller.
use Rattle.std.proofs.Common.{◌+◌, ◌*◌, max}
use Rattle.sm_syntax.specs.declared.tree.Expr.{size-Expr}
use Rattle.sm_observed.proofs.forms.+term_in.Given as goal

abbrev pub decreases-term_in : goal.decreases-term_in
decreases-term_in l = 2 * size-Expr l.e.now

abbrev pub decreases-joined_in : goal.decreases-joined_in
decreases-joined_in l = 2 * max (size-Expr l.d.now) (size-Expr l.f.now) + 1
