pub mod Certificates
pub mod NamedTerms
pub mod MovedTrees
pub mod Laws
pub mod Views
pub mod Ways
pub mod Check
