-- What the grammar spells is read, or refused at the first symbol that nests too deep.
pub mod Parsers
pub mod Expressions
pub mod Conditions
pub mod Statements
pub mod Tasks
