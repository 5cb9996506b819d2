pub mod Names
pub mod Needs
pub mod Inputs
pub mod Members
pub mod Loops
pub mod Laws
