-- What is claimed: what programs mean, and when a merge is free of conflicts.
pub mod Syntax
pub mod Stores
pub mod Meaning
pub mod Fill
pub mod Keeps
pub mod ConflictFree
