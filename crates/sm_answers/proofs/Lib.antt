mod Imports
pub mod Statuses
pub mod Answering
pub mod Verified
pub mod AnswerUnique
pub mod ReadsUnique
pub mod ReadingsLemmas
pub mod ListsLemmas
pub mod ListUnique
pub mod Replayed
