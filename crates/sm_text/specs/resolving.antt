-- Tokens to symbols: the texts of tokens, and how names are counted.
pub mod TokenTexts
pub mod NameCounts
