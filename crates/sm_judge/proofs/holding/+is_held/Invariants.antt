-- A part is smaller than the whole.
use Rattle.sm_judge.proofs.Imports.{◌+◌, ◌*◌, size-Formula}
use Rattle.sm_judge.proofs.holding.+is_held.Given as goal

abbrev pub decreases-is_held : goal.decreases-is_held
decreases-is_held g l = 2 * size-Formula l.f.now

abbrev pub decreases-is_part_held : goal.decreases-is_part_held
decreases-is_part_held g l = 2 * size-Formula l.f.now + 1
