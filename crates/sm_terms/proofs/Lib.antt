mod Imports
pub mod WithTermLemmas
pub mod ListingLemmas
