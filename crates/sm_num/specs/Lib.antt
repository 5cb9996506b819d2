pub mod Range
pub mod Forms
pub mod Combining
pub mod Errors
pub mod Merging
pub mod Eliminating
pub mod Tightening
pub mod FormLaws
