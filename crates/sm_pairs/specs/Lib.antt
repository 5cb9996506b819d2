pub mod Longer
pub mod Pairs
pub mod SameFormulas
