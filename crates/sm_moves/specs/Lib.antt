pub mod CopySets
pub mod CodeShapes
pub mod Moves
pub mod ProgramMoves
pub mod FilledCode
pub mod MovesWithin
pub mod Rests
