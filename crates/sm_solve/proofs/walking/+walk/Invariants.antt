-- Each part of a branch has room for one split less.
use Rattle.std.proofs.Common.{◌+◌, ◌*◌}
use Rattle.sm_solve.proofs.walking.+walk.Given as goal

abbrev pub decreases-walk_from : goal.decreases-walk_from
decreases-walk_from l = 4 * l.room

abbrev pub decreases-walk_on : goal.decreases-walk_on
decreases-walk_on l = 4 * l.room + 3

abbrev pub decreases-walk_parts : goal.decreases-walk_parts
decreases-walk_parts l = 4 * l.room + 2

abbrev pub decreases-walk_part : goal.decreases-walk_part
decreases-walk_part l = 4 * l.room + 1
