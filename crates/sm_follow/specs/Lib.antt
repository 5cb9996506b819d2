pub mod Kinds
pub mod Following
pub mod Views
pub mod Laws
