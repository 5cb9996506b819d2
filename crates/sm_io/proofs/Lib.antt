pub mod FileLemmas
pub mod LogWalks
pub mod ReadLemmas
pub mod SinkLemmas
