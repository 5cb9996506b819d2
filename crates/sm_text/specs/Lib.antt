pub mod lexing
pub mod resolving
pub mod rules
pub mod parsing
pub mod printing
pub mod Tasks
pub mod Laws
