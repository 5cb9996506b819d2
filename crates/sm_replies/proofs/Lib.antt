mod Imports
pub mod Statuses
pub mod BatchStatuses
pub mod BatchUnique
pub mod Answering
pub mod SuggestedSafe
pub mod AnswerUnique
pub mod SpelledLemmas
pub mod ReadingsLemmas
pub mod WhySaid
pub mod CheckAnswers
pub mod BatchTold
pub mod BatchGiven
pub mod BatchText
pub mod BatchSafe
pub mod BatchAnswers
