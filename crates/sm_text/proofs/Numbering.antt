-- Names are numbered in order, and counted with the tokens.
pub mod Symbols
pub mod Counted
pub mod DeclaredInOrder
