pub mod Causes
pub mod Errors
pub mod Files
pub mod Logged
pub mod MemShelf
pub mod MemSink
pub mod Reads
pub mod Sinks
