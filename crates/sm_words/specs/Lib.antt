pub mod Words
pub mod Numbers
pub mod Command
pub mod Lines
pub mod About
pub mod Views
