use Rattle.std.proofs.Common.{◌+◌, ◌*◌, max}
use Rattle.sm_syntax.specs.declared.tree.Cond.{size-Cond}
use Rattle.sm_text.proofs.printing.expressions.+put_condition.Given as goal

abbrev pub decreases-put_cond : goal.decreases-put_cond
decreases-put_cond l = 3 * size-Cond l.c.now

abbrev pub decreases-put_part : goal.decreases-put_part
decreases-put_part l = 3 * size-Cond l.c.now + 1

abbrev pub decreases-put_parts : goal.decreases-put_parts
decreases-put_parts l = 3 * max (size-Cond l.b.now) (size-Cond l.c.now) + 2
