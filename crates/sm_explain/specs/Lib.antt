pub mod Places
pub mod Cells
pub mod Rows
pub mod Indices
pub mod Merging
pub mod Tables
pub mod Starts
pub mod Laws
