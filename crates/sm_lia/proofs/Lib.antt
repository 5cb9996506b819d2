mod Imports
pub mod ComputingLemmas
pub mod ComparingLemmas
