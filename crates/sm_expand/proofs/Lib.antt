mod Imports
pub mod PlanViews
pub mod PlansWiden
pub mod PairsLemmas
pub mod NodeTaken
pub mod FormsLemmas
pub mod DepthLemmas
pub mod RowsLemmas
pub mod WholeLemmas
pub mod NodeOpened
pub mod PlainPlans
pub mod PlacedLemmas
