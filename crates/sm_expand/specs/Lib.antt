pub mod NumberedPlans
pub mod Views
pub mod Tasks
pub mod Cursors
pub mod Opens
pub mod Walks
pub mod PlacedStates
