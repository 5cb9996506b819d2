mod Imports
pub mod BranchExamples
pub mod ChoicesLemmas
mod DrawingLemmas
mod FitsLemmas
mod ForksLemmas
mod FreshLemmas
mod FuelLemmas
mod GrowthLemmas
pub mod HolesLemmas
pub mod LoopExamples
mod MiniLemmas
pub mod NodesLemmas
pub mod ObligationsLemmas
mod ProductLemmas
mod SmallerLemmas
mod BlocksDrawn
mod DrawnLemmas
pub mod LargeTasks
mod SizesLemmas
pub mod TaskParts
mod HoleDrawn
mod TurnsPut
mod PartsPut
mod BranchesDrawn
pub mod BranchesLeft
mod MiniDrawn
mod PartsDrawn
mod RoomLemmas
mod StraightLemmas
mod TurnsDrawn
mod ProductAppends
