mod Imports
pub mod Elsewhere
pub mod Statuses
pub mod Answering
pub mod SuggestedSafe
pub mod ConflictSound
pub mod Verified
pub mod AnswerUnique
pub mod FilesLemmas
pub mod TrimmedFiles
pub mod ReadingsLemmas
pub mod WhySaid
pub mod BatchSafe
