mod Imports
pub mod Given
pub mod Digits
pub mod Asking
pub mod Usage
pub mod ExactExamples
