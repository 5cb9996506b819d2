-- Where a text is refused its first fault stands, and there is one.
pub mod Refusals
pub mod Ordered
pub mod FaultLemmas
pub mod Sound
pub mod Texts
pub mod Judged
pub mod Unique
pub mod Faultless
