mod Imports
pub mod SinceLemmas
pub mod EntriesLemmas
pub mod KnownLemmas
pub mod FitLemmas
pub mod PlanReadyLemmas
pub mod WaitsStay
pub mod OpenedLemmas
pub mod UnderwayLemmas
pub mod NodesMet
pub mod BranchLemmas
pub mod WholeLemmas
pub mod TaskParts
