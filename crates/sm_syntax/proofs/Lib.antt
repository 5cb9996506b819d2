mod Imports
pub mod Statements
pub mod Appends
pub mod Blocks
pub mod Matching
pub mod Puts
pub mod Turns
pub mod Unassigned
pub mod Uses
pub mod Repeats
pub mod Kept
pub mod Numbering
pub mod EachUse
pub mod Assumed
pub mod Refusals
pub mod EachCopy
