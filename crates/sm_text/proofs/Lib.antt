mod Imports
pub mod Cut
pub mod Numbering
pub mod Sound
pub mod Complete
pub mod FirstFault
pub mod Prefix
pub mod RoundTrip
