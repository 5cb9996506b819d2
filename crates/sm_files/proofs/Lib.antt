mod Imports
pub mod FilesLemmas
pub mod Trimmed
pub mod TrimmedFiles
pub mod TrimmedRead
pub mod LinesCounted
