-- A part is smaller than what it's halved from.
use Rattle.std.proofs.Common.{◌+◌, ◌*◌}
use Rattle.sm_par.proofs.calls.+parts.Given as goal

abbrev pub decreases-run_part : goal.decreases-run_part
decreases-run_part g l = 2 * l.part.count

abbrev pub decreases-front : goal.decreases-front
decreases-front g l = 2 * l.before.count + 1

abbrev pub decreases-back : goal.decreases-back
decreases-back g l = 2 * l.behind.count + 1
