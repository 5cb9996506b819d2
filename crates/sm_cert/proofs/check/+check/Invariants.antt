-- Each side of a tree has fewer lines.
use Rattle.sm_cert.proofs.Imports.{◌+◌, ◌*◌, length, lines_of}
use Rattle.sm_cert.proofs.check.+check.Given as goal

abbrev pub decreases-check_at : goal.decreases-check_at
decreases-check_at g l = 2 * length (lines_of l.tree.now)

abbrev pub decreases-check_side : goal.decreases-check_side
decreases-check_side g l = 2 * length (lines_of l.tree.now) + 1
