pub mod Trim
pub mod ProofFile
pub mod Views
