mod Imports
pub mod BranchLemmas
pub mod UsedLemmas
pub mod CountedLemmas
