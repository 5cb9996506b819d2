pub mod claim
pub mod text
pub mod trees
pub mod SameAs
pub mod Assigns
pub mod Laws
