pub mod Sites
pub mod Reasons
pub mod Trials
pub mod Ended
pub mod Goals
