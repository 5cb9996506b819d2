-- What proofs of this crate name of definitions and of the lemmas of other crates.
pub use Rattle.std.proofs.Common.{IfSome, List, Option, [], ap, drop, get_or, length, map, subst, sym, ◌++◌, ◌∙◌, ◌∷◌, ◌≡◌}
pub use Rattle.sm_syntax.specs.text.Sorts.{IsWellSorted, Sorts}
pub use Rattle.sm_term.specs.Tables.{TableValue, sorts_in, trees_in}
pub use Rattle.sm_plan.specs.ReadyStates.{AreSuccessorsReady, IsSuccessorReady}
pub use Rattle.sm_expand.proofs.PlansWiden.{plan_ready}
pub use Rattle.sm_expand.specs.Cursors.{numbered_at}
pub use Rattle.sm_expand.specs.NumberedPlans.{ArePlansReady, IsPlanReady, More, NumberedPlan, NumberedPlans, Over, below, list_of}
pub use Rattle.sm_candidates.specs.Waits.{ArePlacesReady, AreWaitingReady, IsPlaceReady, IsWaitingReady}
pub use Rattle.sm_candidates.specs.declared.walking.Waiting.{Waiting}
