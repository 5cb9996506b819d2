mod Imports
pub mod CodesLemmas
pub mod MovesLemmas
mod MovesMade
pub mod PiecesLemmas
pub mod SetsLemmas
pub mod SharedLemmas
pub mod WalksLemmas
pub mod MaskLemmas
pub mod CopiesLemmas
pub mod NoHoles
