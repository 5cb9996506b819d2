mod Imports
pub mod FinalGoals
pub mod TrialsCounted
pub mod HolesFound
