-- Cited by public clauses: which copies run their loops together.
use Rattle.std.specs.Prelude.{◌≤◌}
use Rattle.sm_moves.specs.declared.moves.Move.{Move}
use Rattle.sm_moves.specs.declared.moves.Move.TheVariants as move

-- a set whose loops run is a mask of four bits
abbrev pub IsMoveWithin : Move → Type 0
IsMoveWithin move.Done = Unit {0}
IsMoveWithin (move.Step c) = Unit {0}
IsMoveWithin (move.Summaries left) = Unit {0}
IsMoveWithin (move.Fork c) = Unit {0}
IsMoveWithin (move.Loops left) = left ≤ 15
