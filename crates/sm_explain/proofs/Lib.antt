mod Imports
pub mod PlacesSound
pub mod MergedLists
pub mod MergedCells
pub mod Pieces
pub mod RowsSound
pub mod DifferentCells
pub mod TableOutputs
pub mod StartNames
pub mod ClausesSound
