pub mod Subjects
pub mod Waits
