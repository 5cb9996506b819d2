-- What proofs of this crate name of definitions and of the lemmas of other crates.
pub use Rattle.std.proofs.Common.{Bool, IsTrue, List, None, Option, Some, [], ap, arith, false, filter, if◌then◌else◌, inl, inr, length, map, nat_abs, nat_lt, neg_ℤ, negsuc, not, pos, refl, subst, suc, sym, true, zero, ℕ, ℤ, ⊎_elim, ◌&&◌, ◌*ℤ◌, ◌++◌, ◌+ℤ◌, ◌+◌, ◌-ℤ◌, ◌-◌, ◌<ℤ◌, ◌<◌, ◌==◌, ◌||◌, ◌↔◌, ◌∙◌, ◌∷◌, ◌≡◌, ◌≢◌, ◌≤ℤ◌, ◌≤◌, ◌⊎◌}
pub use Rattle.std.proofs.lemmas.Bool.{and_parts, eq-eqb, eqb-true, lt-ltb, ltb-false, ltb-true, ne_eqb, or_parts}
pub use Rattle.std.proofs.lemmas.Bool.Decides.{Decides-int_eq}
pub use Rattle.std.specs.List.{list_any}
pub use Rattle.std.specs.Ordering.{int_eq}
pub use Rattle.sm_lemmas.proofs.Tests.{not_true, or_true}
pub use Rattle.sm_num.proofs.DivisionLemmas.{floor_bounds, floor_galois, mul_mono, satisfies_times}
pub use Rattle.sm_num.proofs.EliminationParts.{SumsTo, can_cancel_gives, combined_sums_to, eliminated_sums_to, multipliers_positive}
pub use Rattle.sm_num.proofs.FormValues.{combined_gives_value, combined_value, sum_without}
pub use Rattle.sm_num.proofs.KeptLemmas.{combined_among, combined_kept, eliminated_among, eliminated_kept, eliminated_takes_atom, parts_apart, parts_from, parts_reduced, tightened_kept}
pub use Rattle.sm_num.proofs.OneForm.{equation_is, negative_below}
pub use Rattle.sm_num.proofs.OutcomeLemmas.{Each, Gives, computed_gives, gives_both, gives_fits, gives_more, then_gives, with_part_has}
pub use Rattle.sm_num.proofs.ResultsReduced.{AreAmong, floor_fits, neg_fits, tightened_among}
pub use Rattle.sm_num.proofs.RingLemmas.{mul-add_right, mul-neg_left, mul-neg_right, mul_zero, one_mul, ring, sums, zero_mul}
pub use Rattle.sm_num.proofs.SameAtomLemmas.{AreReduced, IsApart, apart_turned, coefficient_one, coefficient_past, each_more, other_test, same_atom_reflexive, same_atom_sound, without_apart}
pub use Rattle.sm_num.specs.Combining.{Fits, Leaves, Outcome, combined, computed, with_part}
pub use Rattle.sm_num.specs.Eliminating.{can_cancel, ceiling_of, eliminated, floor_of, is_equation, is_negative, kind_of_sum, multipliers, signs_alike}
pub use Rattle.sm_num.specs.FormLaws.{same_atom, value_of_form}
pub use Rattle.sm_num.specs.Forms.{AreParts, HoldsAt, IsKept, Linear, Satisfies, coefficient, sum_of_parts, without}
pub use Rattle.sm_num.specs.Range.{fits_form}
pub use Rattle.sm_num.specs.Tightening.{fails, has_no_part, is_contradictory, tightened}
pub use Rattle.sm_num.specs.declared.kind.Kind.{Kind}
pub use Rattle.sm_num.specs.declared.kind.Kind.TheVariants.{Eq, Le}
pub use Rattle.sm_num.specs.declared.op.Op.TheVariants.{Add, Mul, Sub}
pub use Rattle.sm_omega.specs.Counting.{Count, Decision, Done, Enter, Entered, Item, Outside, Passed, Shallow, Stay, counted, entered, entering, go_on, led, with_result}
pub use Rattle.sm_omega.specs.Equalities.{beside, by_equation, eliminated_item, first_equation, least_part, least_part_of, modular, modular_item, modular_parts, quotient, value_by}
pub use Rattle.sm_omega.specs.Exact.{above_all, above_parts, by_first, by_least, by_rule, enough, solved_within}
pub use Rattle.sm_omega.specs.ExactLaws.{AllHold, AllKept, ExactIsRight, IsRightFor}
pub use Rattle.sm_omega.specs.Inequalities.{by_all_splinters, by_bounds, by_splinters, by_variable, greatest_at, greatest_bound, least_bound, numbers_to, shadow, shadows, splinter, splinters_at, standing}
pub use Rattle.sm_omega.specs.Rules.{Answer, Solver, giving, or_else, or_next, or_refuted, solved, with_value}
pub use Rattle.sm_omega.specs.Solving.{Values, at, bound_from, bounds_above, bounds_below, bounds_of, greatest, greatest_of, has, least, least_of, least_variable, lesser, lesser_first, lower_bounds, others, put, rest_of, sum_from, upper_bounds, value_from}
