mod Imports
pub mod Fronts
pub mod FrontSymbols
pub mod Reached
pub mod Samples
pub mod Judged
pub mod Lines
