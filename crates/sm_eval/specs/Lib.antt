pub mod Cells
pub mod CellPlaces
pub mod StoredValues
pub mod Zeros
pub mod Events
pub mod Laws
