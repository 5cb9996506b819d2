mod Imports
pub mod EquationsLemmas
pub mod ArgumentsLemmas
pub mod CongruenceLemmas
