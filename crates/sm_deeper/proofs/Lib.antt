mod Imports
pub mod Crossing
pub mod RowsLemmas
pub mod Widening
