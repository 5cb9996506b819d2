mod Imports
pub mod PrintedLemmas
pub mod Begins
pub mod Refused
pub mod Explained
pub mod CellsUnique
pub mod ExplainUnique
