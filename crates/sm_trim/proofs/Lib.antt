mod Imports
pub mod NamesLemmas
pub mod NumbersLemmas
pub mod WaysLemmas
pub mod TrimmedCloses
pub mod TrimmedUsed
pub mod UsedStays
pub mod TrimmedSmaller
pub mod TrimmedWithin
pub mod TrimmingLaws
pub mod MarksLemmas
pub mod LinesLemmas
pub mod TreesLemmas
pub mod TrimLemmas
