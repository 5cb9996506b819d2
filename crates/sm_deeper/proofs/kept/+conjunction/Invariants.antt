-- Each half has fewer formulas.
use Rattle.std.proofs.Common.{◌+◌, ◌*◌, length}
use Rattle.sm_deeper.proofs.kept.+conjunction.Given as goal

abbrev pub decreases-conjunction : goal.decreases-conjunction
decreases-conjunction l = 2 * length l.fs.now

abbrev pub decreases-boxed_conjunction : goal.decreases-boxed_conjunction
decreases-boxed_conjunction l = 2 * length l.fs.now + 1
