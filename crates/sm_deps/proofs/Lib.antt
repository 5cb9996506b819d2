mod Imports
pub mod NeedsLemmas
pub mod InputsSound
pub mod GrownLemmas
pub mod InputsExact
pub mod MembersLemmas
pub mod AssignsLemmas
pub mod NeededLemmas
pub mod InputsDeclared
mod LoopSets
mod LoopsExact
