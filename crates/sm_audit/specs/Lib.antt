pub mod Since
pub mod Known
pub mod Fit
pub mod Walks
