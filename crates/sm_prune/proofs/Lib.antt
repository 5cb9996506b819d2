mod Imports
pub mod CarriedLemmas
pub mod LineMoves
pub mod LineTaken
pub mod LeftLeads
pub mod LeftNamed
pub mod LeftReadable
pub mod ToldLemmas
pub mod PruneLemmas
