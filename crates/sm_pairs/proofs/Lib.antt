pub mod AmongLemmas
pub mod LongerLemmas
