pub mod Computing
pub mod Comparing
