-- Bytes to tokens: the cut of a text, which public clauses cite, and what stands at its front.
pub mod Front
pub mod Cutting
