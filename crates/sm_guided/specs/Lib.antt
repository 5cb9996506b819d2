pub mod Beyond
pub mod Inputs
