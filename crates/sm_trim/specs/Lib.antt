pub mod Used
pub mod Pruned
pub mod Laws
pub mod Named
pub mod Views
