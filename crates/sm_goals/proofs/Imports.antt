-- What proofs of this crate name of definitions and of the lemmas of other crates.
pub use Rattle.std.proofs.Common.{List, Option, Some, [], ap, arith, get_or, length, refl, slice_get, subst, suc, sym, take, zero, ℕ, ◌++◌, ◌+◌, ◌<◌, ◌∙◌, ◌∷◌, ◌≡◌, ◌≤◌}
pub use Rattle.std.proofs.lemmas.List.{get_or-map, length-append, length-map, take-append-le, take_more}
pub use Rattle.sm_syntax.specs.text.Sorts.{Sorts}
pub use Rattle.sm_term.specs.Assertions.{Assertion}
pub use Rattle.sm_term.specs.Sorted.{AreFormsSorted}
pub use Rattle.sm_term.specs.TableLaws.{AddsTerms, ExtendsTable}
pub use Rattle.sm_term.specs.Tables.{TableValue, sorts_in, trees_in}
pub use Rattle.sm_term.specs.Terms.{Tree}
pub use Rattle.sm_term.specs.declared.formula.Formula.{Formula}
pub use Rattle.sm_plan.specs.ReadyStates.{AreFormsReady, IsFormReady}
pub use Rattle.sm_list.specs.Parts.{AreFormulasWithin, all_numbered, assertions_in}
