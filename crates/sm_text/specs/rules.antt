-- Symbols to trees: a parser for each rule of the grammar, and what the rules build.
pub mod Answers
pub mod Parsers
pub mod Reading
pub mod Written
