use Rattle.std.proofs.Common.{◌+◌, ◌*◌, max}
use Rattle.sm_syntax.specs.declared.tree.Cond.{size-Cond}
use Rattle.sm_term.proofs.forms.+forms.Given as goal

abbrev pub decreases-made_form : goal.decreases-made_form
decreases-made_form l = 2 * size-Cond l.c.now

abbrev pub decreases-made_forms : goal.decreases-made_forms
decreases-made_forms l = 2 * max (size-Cond l.b.now) (size-Cond l.c.now) + 1
