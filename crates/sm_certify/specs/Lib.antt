pub mod Bases
pub mod Certifying
pub mod Decided
pub mod Deciding
pub mod Given
pub mod Refutes
pub mod Refuting
