-- What proofs of this crate name of definitions and of the lemmas of other crates.
pub use Rattle.std.proofs.Common.{Bool, Err, IsTrue, List, None, Ok, Option, Result, Some, Vec, [], ap, arith, cond, drop, eq-zero-or-pos, false, get_or, if◌then◌else◌, inl, inr, length, map, mul-pos, nat_abs, neg_ℤ, negsuc, not, option_map, pos, refl, rules, set, subst, suc, sym, take, tests, true, zero, ℕ, ℤ, ⊎_elim, ◌&&◌, ◌*ℤ◌, ◌*◌, ◌++◌, ◌+ℤ◌, ◌+◌, ◌-◌, ◌<ℤ◌, ◌<◌, ◌==◌, ◌||◌, ◌↔◌, ◌∙◌, ◌∷◌, ◌≡◌, ◌≢◌, ◌≤ℤ◌, ◌≤◌, ◌⊎◌}
pub use Rattle.std.proofs.lemmas.Bool.{and_parts, cases_Bool, cases_eq, cases_lt, eqb-false, eqb-true, ltb-false}
pub use Rattle.std.proofs.lemmas.Bool.Decides.{Decides-eqb, Decides-int_eq, same_from_decides}
pub use Rattle.std.proofs.lemmas.Int.{by_lt_z, to_z-of_z}
pub use Rattle.std.proofs.lemmas.List.{drop-drop, drop_all, drop_more, get_or-drop, get_or-map, get_or-set_other, get_or-set_same, get_or_append_left, get_or_push, get_or_read, length-map, length-set, length-take-le, length_push, map-append, map-id, map-set, map_push, nil_from_length, set-get_or, set_past, take_more}
pub use Rattle.std.proofs.lemmas.List.Elements.{All-append, All-cons, All-filter, All-head, All-map, All-nil, All-tail, All-weaker, filter-append, filter_passes}
pub use Rattle.std.proofs.lemmas.List.Folds.{list_any-append}
pub use Rattle.std.proofs.lemmas.Option.{slice_get-get_or}
pub use Rattle.std.specs.List.{All, find, list_any, range_with_len, slice_get}
pub use Rattle.std.specs.Ordering.{int_eq}
pub use Rattle.std.specs.Result.{IfOk, OnErr, OnOk}
pub use Rattle.sm_lemmas.proofs.Tests.{not_true}
pub use Rattle.sm_num.proofs.DivisionLemmas.{mul_mono, satisfies_times}
pub use Rattle.sm_num.proofs.EliminationParts.{SumsTo, eliminated_sums_to, multipliers_positive}
pub use Rattle.sm_num.proofs.KeptLemmas.{eliminated_adds_no_atom, eliminated_among, eliminated_is_kept, eliminated_takes_atom, parts_reduced}
pub use Rattle.sm_num.proofs.OneForm.{coefficient_past, equation_is, negative_below}
pub use Rattle.sm_num.proofs.OutcomeLemmas.{gives_fits}
pub use Rattle.sm_num.proofs.ResultsReduced.{AreAmong}
pub use Rattle.sm_num.proofs.RingLemmas.{mul-neg_left, mul-neg_right, mul_zero, ring, zero_mul}
pub use Rattle.sm_num.proofs.SameAtomLemmas.{IsApart, not_both, other_test, same_atom_reflexive, same_atom_sound, without_apart, zero_apart, zero_test}
pub use Rattle.sm_num.specs.Combining.{Fits, Leaves, Outcome}
pub use Rattle.sm_num.specs.Eliminating.{can_cancel, eliminated, is_equation, is_negative, kind_of_sum, multipliers, signs_alike}
pub use Rattle.sm_num.specs.FormLaws.{same_atom}
pub use Rattle.sm_num.specs.Forms.{AreParts, IsKept, Linear, Satisfies, coefficient, parts_without, sum_of_parts, without}
pub use Rattle.sm_num.specs.Tightening.{fails, has_no_part, is_contradictory}
pub use Rattle.sm_num.specs.declared.error.NumError.{NumError}
pub use Rattle.sm_num.specs.declared.kind.Kind.{Kind}
pub use Rattle.sm_num.specs.declared.kind.Kind.TheVariants.{Eq, Le}
pub use Rattle.sm_fm.specs.Elimination.{Cancels, Event, GoesBeyond, Next, Placed, crossed, events, forms_without, has_atom, is_above, is_below, is_new, is_pivot, pairs, pairs_with, placed_from, same_form, same_kind, same_list, taken_out, with_sum}
pub use Rattle.sm_fm.specs.Firsts.{BeginsAt, ListsFirsts, beginning, beginnings, begins_with, has, has_none_before, lists_in, put_at, standing}
pub use Rattle.sm_fm.specs.Known.{KnowsAll, Learns, knows}
pub use Rattle.sm_fm.specs.KnownLaws.{pair_decides, same_form-Decides, same_list-Decides}
pub use Rattle.sm_fm.specs.Places.{AreWithin, IsPair, both_at, crossed_from, crossed_places, form_at, no_form, pivot_place, place_pairs, place_pairs_with, placed_at, places_of}
pub use Rattle.sm_fm.specs.Solutions.{AreBelow, AreQuiet, EachForm, HoldsOver, IsGiven, QuietHasSolution}
pub use Rattle.sm_fm.specs.States.{Finishes, IsPairOf, IsSound, Lacks, TakesPair, after_sum, events_left, events_of_sum, later_atoms, left_of, taking, with_form}
pub use Rattle.sm_fm.specs.Taking.{Gives, Taking}
pub use Rattle.sm_fm.specs.declared.known.Known.{Known}
pub use Rattle.sm_fm.specs.declared.state.State.{State}
