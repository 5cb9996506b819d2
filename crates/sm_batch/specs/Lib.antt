pub mod Keys
pub mod Entries
pub mod Batches
pub mod Answers
pub mod Groups
pub mod Views
pub mod Steps
pub mod Echo
