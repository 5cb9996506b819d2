mod Imports
pub mod ChoicesLemmas
pub mod CombinedLemmas
pub mod FirstLemmas
pub mod FitCombinations
pub mod FitTasks
