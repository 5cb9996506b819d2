-- What proofs of this crate name of definitions and of the lemmas of other crates.
pub use Rattle.std.proofs.Common.{Bool, Err, Global, IsTrue, List, None, Ok, Option, Some, Vec, [], add-one, ap, arith, drop, false, get_or, if◌then◌else◌, inl, inr, int_lt, le-ltb, le_refl, length, lt-ltb, map, map-id, nat_abs, nat_eq, nat_le, nat_lt, neg_ℤ, negsuc, not, of_z, pos, refl, rules, slice_get, subst, suc, sym, take, take_all, to_z, true, unwrap_or, zero, ℕ, ℤ, ⊎_elim, ◌&&◌, ◌*ℤ◌, ◌++◌, ◌+ℤ◌, ◌+◌, ◌-ℤ◌, ◌-◌, ◌/◌, ◌<ℤ◌, ◌<◌, ◌==◌, ◌^◌, ◌↔◌, ◌∙◌, ◌∷◌, ◌≡◌, ◌≢◌, ◌≤ℤ◌, ◌≤◌, ◌⊎◌}
pub use Rattle.std.proofs.lemmas.Bool.{cases_Bool, eq-eqb, eqb-false, false_from_ne_true, le-leb, ltb-false, or_parts}
pub use Rattle.std.proofs.lemmas.Bool.Decides.{Decides-eqb, Decides-int_eq, Decides-ltb}
pub use Rattle.std.proofs.lemmas.Int.{by_lt_z, ints, to_z-of_z, to_z_pos}
pub use Rattle.std.proofs.lemmas.List.{append-nil, append_assoc, get_or_default, nil_from_length, take_more}
pub use Rattle.std.proofs.lemmas.List.Elements.{All-filter, All-head, All-more, All-tail, filter-append, filter_passes}
pub use Rattle.std.proofs.lemmas.Result.{IfOk-weaker, err_from_is_err_and}
pub use Rattle.std.specs.HashMap.{get}
pub use Rattle.std.specs.Int.{w128}
pub use Rattle.std.specs.List.{All, filter_map, list_any, position, remove}
pub use Rattle.std.specs.Ordering.{int_eq}
pub use Rattle.std.specs.Prelude.{IfNone, IfSome}
pub use Rattle.std.specs.declared.alloc.AllocError.{AllocError}
pub use Rattle.sm_num.proofs.AlikeLemmas.{computed_inside, same_number}
pub use Rattle.sm_num.proofs.KeptForms.{coefficient_at, coefficient_first, dropped, size_below}
pub use Rattle.sm_num.proofs.Merges.{explains_then}
pub use Rattle.sm_num.proofs.OneForm.{coefficient_past, merged_once}
pub use Rattle.sm_num.proofs.OutcomeLemmas.{IsSum, combined_number_gives, computed_gives, gives_fits}
pub use Rattle.sm_num.proofs.ResultsReduced.{neg_fits}
pub use Rattle.sm_num.specs.Combining.{Fits, Leaves, Outcome, combined, combined_number, computed, formed, led_by, merged, merged_part, scaled, then_with, with_part}
pub use Rattle.sm_num.specs.Eliminating.{eliminated, floor_of, is_equation, is_negative}
pub use Rattle.sm_num.specs.Errors.{Explains, Returns}
pub use Rattle.sm_num.specs.FormLaws.{same_atom}
pub use Rattle.sm_num.specs.Forms.{AreParts, HoldsAt, IsKept, Linear, Satisfies, coefficient, parts_without, sum_of_parts}
pub use Rattle.sm_num.specs.Range.{fits_form}
pub use Rattle.sm_num.specs.Tightening.{has_no_part, is_contradictory, tightened}
pub use Rattle.sm_num.specs.declared.error.NumError.{NumError}
pub use Rattle.sm_num.specs.declared.kind.Kind.{Kind}
pub use Rattle.sm_num.specs.declared.kind.Kind.TheVariants.{Eq, Le}
pub use Rattle.sm_num.specs.declared.op.Op.{Op}
pub use Rattle.sm_num.specs.declared.op.Op.TheVariants.{Add, Mul, Sub}
pub use Rattle.sm_term.specs.Assertions.{Assertion, No}
pub use Rattle.sm_term.specs.Tables.{sorts_in, tree_at, trees_in}
pub use Rattle.sm_omega.specs.Counting.{Count, Decision, Done, Enter, Entered, Item, Outside, Passed, Shallow, Stay, entered, entering, go_on, led, with_result}
pub use Rattle.sm_omega.specs.Equalities.{beside, by_equation, eliminated_item, first_equation, least_part, least_part_of, modular, modular_item, modular_parts, quotient}
pub use Rattle.sm_omega.specs.Exact.{above_all, above_parts, by_first, by_least, by_rule, enough, solved_within}
pub use Rattle.sm_omega.specs.ExactLaws.{AllHold, AllKept, IsRightFor}
pub use Rattle.sm_omega.specs.Inequalities.{by_all_splinters, by_bounds, by_splinters, by_variable, greatest_at, greatest_bound, least_bound, numbers_to, shadow, shadows, splinter, splinters_at, standing}
pub use Rattle.sm_omega.specs.Rules.{Answer, Solver, giving, or_else, or_next, or_refuted, solved, with_value}
pub use Rattle.sm_omega.specs.Solving.{Values, at, bound_from, bounds_above, bounds_below, bounds_of, greatest, greatest_of, has, least, least_of, least_variable, lesser_first, lower_bounds, others, put, rest_of, sum_from, upper_bounds}
pub use Rattle.sm_theory.proofs.TermsOfFormulasLemmas.{all_terms_places}
pub use Rattle.sm_theory.specs.Equality.{formula_if}
pub use Rattle.sm_theory.specs.ExactLine.{exact_adds, form_by_places, forms_by_places, forms_of_branch, has_no_solution}
pub use Rattle.sm_theory.specs.Facts.{BranchFact, Formal, Sum}
pub use Rattle.sm_theory.specs.LinearTerms.{atom_form, constant_form}
pub use Rattle.sm_theory.specs.Lines.{followed, form_in, formula_in}
pub use Rattle.sm_theory.specs.Standing.{HaveOnePlace, IsKeptFor, StandsAt}
pub use Rattle.sm_theory.specs.TermsOfFormulas.{all_terms, with_formulas}
pub use Rattle.sm_theory.specs.Views.{AllStand, StandsIf}
pub use Rattle.sm_theory.specs.declared.fact.Fact.{Fact}
pub use Rattle.sm_terms.specs.Listing.{IsClosed, trees_at}
pub use Rattle.sm_exact.specs.Entries.{TellsError, before, going, shown}
pub use Rattle.sm_exact.specs.Placing.{ArePlaced, ArePlacedForms, FactLacksPlace, HasNoPlace, HavePlaces, IsAt, IsPlaced, IsPlacedIf, LacksPlace, SomeLacksPlace, formulas_of}
pub use Rattle.sm_exact.specs.Rows.{Finds, HasNoSplinter, IsPartAt, Keeps, Splits, passed}
pub use Rattle.sm_exact.specs.Stack.{Applies, Awaits, Bounds, Dark, Equation, Frame, Splinters, Stands, Steps, StepsByRule, all_zero, answer_of, side_bound, splinters_from, splinters_left, told}
pub use Rattle.sm_exact.specs.Telling.{TellsExact, atoms_of, with_atom, with_forms, with_parts}
pub use Rattle.sm_exact.specs.Valued.{Fails, FailsAll, Leads, Turns, better, bound_at, is_from, values_in}
pub use Rattle.sm_exact.specs.declared.answer.ExactAnswer.{ExactAnswer}
pub use Rattle.sm_exact.specs.declared.deciding.Turned.{Turned}
pub use Rattle.sm_exact.specs.declared.entry.Entry.{Entry}
pub use Rattle.sm_exact.specs.declared.frame.Side.TheVariants.{Above, Below}
pub use Rattle.sm_exact.specs.declared.step.Step.{Step}
