pub mod Answers
pub mod Entries
pub mod Rows
pub mod Stack
pub mod Telling
pub mod Valued
pub mod Placing
