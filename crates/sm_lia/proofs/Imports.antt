-- What proofs of this crate name of definitions and of the lemmas of other crates.
pub use Rattle.std.proofs.Common.{Bool, Err, List, None, Ok, Option, Result, Some, [], ap, false, if◌then◌else◌, length, negsuc, not, pos, refl, subst, sym, true, ℕ, ℤ, ⊎_elim, ◌&&◌, ◌<◌, ◌∙◌, ◌≡◌}
pub use Rattle.std.specs.Result.{IfOk}
pub use Rattle.sm_num.specs.Combining.{Fits, Leaves, Outcome, combined, computed, then_with}
pub use Rattle.sm_num.specs.Errors.{Returns}
pub use Rattle.sm_num.specs.Forms.{IsKept, Linear}
pub use Rattle.sm_num.specs.declared.error.NumError.{NumError}
pub use Rattle.sm_term.specs.Tables.{sorts_in, tree_at, trees_in}
pub use Rattle.sm_term.specs.Terms.{Tree}
pub use Rattle.sm_theory.proofs.FormsOfTermsLemmas.{one_place, stands_at}
pub use Rattle.sm_theory.proofs.LinearLater.{one_more_stands, same_parts_stand}
pub use Rattle.sm_theory.proofs.LinearStanding.{can_cancel_stands, combined_stands, eliminated_stands, tightened_stands}
pub use Rattle.sm_theory.specs.Arithmetic.{cancelled, compared_forms, difference, form_fact, is_numeric, one_more, same_parts}
pub use Rattle.sm_theory.specs.Facts.{BranchFact, Sum}
pub use Rattle.sm_theory.specs.LinearTerms.{constant_form, linear_of}
pub use Rattle.sm_theory.specs.Lines.{followed, form_at}
pub use Rattle.sm_theory.specs.Standing.{IsKeptFor, IsOutcomeFor}
pub use Rattle.sm_theory.specs.Views.{StandsIf}
pub use Rattle.sm_lia.specs.Computing.{ReturnsFor}
