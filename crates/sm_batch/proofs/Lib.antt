mod Imports
pub mod MapLemmas
pub mod EntryLemmas
pub mod LookupLemmas
pub mod ZipLemmas
pub mod TellLemmas
pub mod JobLemmas
pub mod SettleLemmas
