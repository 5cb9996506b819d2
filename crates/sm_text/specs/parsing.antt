-- Texts that are read: tasks, programs, fragments and prefixes, and where a text is refused.
pub mod Text
pub mod Places
pub mod ErrorPlaces
pub mod Fragments
pub mod Program
pub mod BlockTokens
pub mod Prefix
