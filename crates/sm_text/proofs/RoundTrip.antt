-- The canonical text of what some text spells, spells it again.
pub mod CodeSpelled
pub mod TaskSpelled
pub mod PieceTokens
pub mod TextTokens
pub mod Apart
pub mod CodeApart
pub mod TaskApart
pub mod Content
pub mod Fitting
pub mod Printable
pub mod Spelled
pub mod TokenBytes
pub mod Symbols
pub mod Tasks
pub mod Parts
pub mod Putting
