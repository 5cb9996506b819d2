pub mod Branches
pub mod Own
pub mod Parts
pub mod Reading
pub mod Renumber
pub mod Renumbered
pub mod Shared
