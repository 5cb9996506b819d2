-- The statements of the filling's block are counted.
use Rattle.sm_moves.proofs.Imports.{ap, ◌∙◌, own_statements}
use Rattle.sm_moves.proofs.PiecesLemmas.{counted}
use Rattle.sm_moves.proofs.filled.filling_count.Goals as goal

pub returns-in-Some : goal.returns-in-Some
returns-in-Some c = counted c.in-Some.block.now c.len.result c.len.ensures ∙ ap own_statements c.in-Some.ensures.some
