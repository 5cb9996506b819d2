mod Imports
pub mod ReadyPlans
pub mod SortedBlocks
