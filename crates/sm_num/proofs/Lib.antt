mod Imports
pub mod RingLemmas
pub mod FormExamples
pub mod OutcomeLemmas
pub mod SameAtomLemmas
pub mod FormValues
pub mod DivisionLemmas
pub mod EliminationSound
pub mod TighteningSound
pub mod RenamingLemmas
pub mod ResultsReduced
pub mod KeptLemmas
pub mod AlikeLemmas
pub mod AlikeDivided
pub mod OrderLemmas
pub mod AlikeValues
pub mod OverOtherAtoms
pub mod EliminationParts
mod Divisors
pub mod KeptForms
pub mod Merges
mod Eliminated
pub mod OneForm
