-- The canonical text, in pieces, and which names have a text.
pub mod Pieces
pub mod Canonical
pub mod Named
