pub mod Combinations
pub mod Fit
pub mod First
pub mod Errors
pub mod Laws
