mod Imports
pub mod Counting
pub mod NameTexts
pub mod Valid
pub mod Spelled
pub mod Values
