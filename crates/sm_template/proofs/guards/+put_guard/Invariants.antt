-- Conditions become smaller.
use Rattle.sm_template.proofs.Imports.{◌+◌, ◌*◌, max, size-Cond}
use Rattle.sm_template.proofs.guards.+put_guard.Given as goal

abbrev pub decreases-put_guard : goal.decreases-put_guard
decreases-put_guard l = 2 * size-Cond l.b.now

abbrev pub decreases-put_guards : goal.decreases-put_guards
decreases-put_guards l = 2 * max (size-Cond l.b.now) (size-Cond l.c.now) + 1
