mod Imports
pub mod WaitsLemmas
