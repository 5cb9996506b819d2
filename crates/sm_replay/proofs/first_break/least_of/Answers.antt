-- An index has 0, or a cell.
use Rattle.sm_replay.proofs.Imports.{copy_named, end_in}
use Rattle.sm_replay.proofs.FirstBreakLeast.{known_by}
use Rattle.sm_replay.proofs.first_break.least_of.Goals as goal

pub returns-clause-new : goal.returns-clause-new
returns-clause-new c =
    known_by (end_in c.args.ends.now)
    (copy_named c.args.copy) c.args.a.0 c.cells_at.result.now c.least_in.result c.cells_at.ensures c.least_in.ensures.new
