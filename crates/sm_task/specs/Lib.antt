pub mod Filling
pub mod Errors
pub mod Laws
pub mod Checks
pub use Rattle.sm_text.specs.Tasks
