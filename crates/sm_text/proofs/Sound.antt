-- What each rule reads is what the grammar says.
pub mod Parsers
pub mod Choices
pub mod Gathered
pub mod Chained
pub mod Names
pub mod Expressions
pub mod Conditions
pub mod Statements
pub mod Sections
pub mod Loops
pub mod Limits
pub mod Programs
