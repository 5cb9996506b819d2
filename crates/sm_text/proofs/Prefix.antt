-- What is read of the first tokens of a text, whatever stands after them.
pub mod Sound
pub mod Exact
pub mod FirstTokens
pub mod Judged
pub mod BlockEnds
pub mod FewerGroups
pub mod Spaced
pub mod HeadText
