pub mod Explain
pub mod Print
pub mod Shown
pub mod Readings
pub mod Views
pub mod Laws
