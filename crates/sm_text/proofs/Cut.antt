-- The tokens of a text are those into which it is cut.
pub mod Fronts
pub mod Lexing
pub mod Standing
pub mod Exact
