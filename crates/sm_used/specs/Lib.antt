pub mod Names
pub mod Counted
