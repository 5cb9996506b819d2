-- What proofs of this crate name of definitions and of the lemmas of other crates.
pub use Rattle.std.proofs.Common.{Bool, Decides, Global, IfSome, IsTrue, List, None, Option, Some, Vec, [], ap, append_assoc, arith, below_more, cond, drop, false, get_or, if◌then◌else◌, inl, inr, length, length-set, map, nat_eq, not, pos, refl, rules, slice_get, slice_set, subst, suc, sym, take, true, unwrap_or, zero, zero-add, ℕ, ℤ, ⊎_elim, ◌&&◌, ◌*◌, ◌++◌, ◌+◌, ◌-◌, ◌<◌, ◌==◌, ◌^◌, ◌||◌, ◌↔◌, ◌∙◌, ◌∷◌, ◌≡◌, ◌≤◌, ◌⊎◌}
pub use Rattle.std.proofs.Math.Path.{fun_ext}
pub use Rattle.std.proofs.lemmas.Bool.{and_from, and_parts, cases_lt, cases_order, eq-eqb, eqb-true, false_from_ne_true, false≢true, ne_eqb, or_cases, or_from, or_left, or_parts, or_right}
pub use Rattle.std.proofs.lemmas.Bool.Decides.{Decides-and, Decides-eqb, Decides-int_eq, same_from_decides}
pub use Rattle.std.proofs.lemmas.Cmp.{int_eq_equiv}
pub use Rattle.std.proofs.lemmas.List.{append-nil, drop_more, get_or_past, length-map, length_push, map-append, map_more, map_push, take-append-drop, take-append-le, take_all, take_at, take_more}
pub use Rattle.std.proofs.lemmas.Map.Keys.{IsDistinct-head, IsDistinct-tail, any_passes_from_place}
pub use Rattle.std.proofs.lemmas.Option.{get_or_from_slice_get, none-some, same_Some, slice_get-get_or, slice_get-map, slice_get_read, slice_get_within}
pub use Rattle.std.proofs.lemmas.Result.{IfOk-weaker, on_ok_weaker}
pub use Rattle.std.proofs.lemmas.Slice.Eq.{bytes_eq-Decides, slice_eq-Decides}
pub use Rattle.std.specs.Cmp.Lexicographic.{pointwise}
pub use Rattle.std.specs.HashMap.{get}
pub use Rattle.std.specs.List.{AllByRecursion, IsDistinct, filter, list_any, range_with_len}
pub use Rattle.std.specs.Option.{MatchOption}
pub use Rattle.std.specs.Ordering.{int_eq}
pub use Rattle.std.specs.Prelude.{IfOk}
pub use Rattle.sm_lemmas.proofs.Lists.{get_below, get_in_either, get_in_first, get_in_second, get_last, get_pushed, one_thing, together}
pub use Rattle.sm_lemmas.proofs.Tests.{same_tests}
pub use Rattle.sm_syntax.specs.claim.Syntax.{Code}
pub use Rattle.sm_syntax.specs.declared.tree.Sort.{Sort}
pub use Rattle.sm_syntax.specs.text.Sorts.{Sorts}
pub use Rattle.sm_term.proofs.SameTermsLemmas.{same_tree_is}
pub use Rattle.sm_term.proofs.TermsLemmas.{part_before}
pub use Rattle.sm_term.proofs.TreesLemmas.{fits-more, tree_at-more, tree_in-more, within-later}
pub use Rattle.sm_term.specs.Assertions.{Assertion, Eq, Ne}
pub use Rattle.sm_term.specs.Heads.{arguments_of, same_head}
pub use Rattle.sm_term.specs.RowLaws.{Contents, contents_of, same_numbers-Decides, same_term-Decides, same_term-equiv}
pub use Rattle.sm_term.specs.Rows.{names_in_list, same_numbers, same_term}
pub use Rattle.sm_term.specs.SameTerms.{same_tree}
pub use Rattle.sm_term.specs.Sorted.{IsSorted, tree_sort}
pub use Rattle.sm_term.specs.TableLaws.{AddsTerms, AreApart, AreCodesApart, AreTreesSorted}
pub use Rattle.sm_term.specs.Tables.{AreBefore, IsTermWithin, TableValue, codes_in, sorts_in, tree_at, tree_in, trees_in}
pub use Rattle.sm_term.specs.Terms.{Add, Cell, Fun, Havoc, Lit, Mul, Neg, Read, Slot, Start, Sub, Tree, Write}
pub use Rattle.sm_term.specs.declared.term.Term.{Term}
pub use Rattle.sm_term.specs.declared.term.TermId.{TermId}
pub use Rattle.sm_theory.proofs.LinearLater.{same_parts_stand, stands_later}
pub use Rattle.sm_theory.specs.Arithmetic.{arithmetic_adds, compared_forms, is_numeric, same_parts}
pub use Rattle.sm_theory.specs.Elements.{Written, element_adds, read_in, written_in}
pub use Rattle.sm_theory.specs.Equality.{chained, equality_adds, formula_if, or_other, say_equal, says_equal, substituted, turned_contrary, turned_equation}
pub use Rattle.sm_theory.specs.Facts.{BranchFact, Formal}
pub use Rattle.sm_theory.specs.LinearTerms.{linear_of}
pub use Rattle.sm_theory.specs.Lines.{CertificateLine, Sides, contrary_at, equal_sides, equation_at, followed, formula_in, unequal_sides}
pub use Rattle.sm_theory.specs.TermsOfFormulas.{is_among}
pub use Rattle.sm_theory.specs.Views.{line_in}
pub use Rattle.sm_theory.specs.Ways.{adds}
pub use Rattle.sm_theory.specs.declared.line.CertLine.{CertLine}
pub use Rattle.sm_pairs.proofs.AmongLemmas.{there_among}
pub use Rattle.sm_pairs.proofs.LongerLemmas.{longer_itself, longer_twice, slice_get-longer}
pub use Rattle.sm_pairs.specs.Longer.{IsLonger}
pub use Rattle.sm_pairs.specs.Pairs.{Pairs}
pub use Rattle.sm_cc.specs.AddedTerms.{AddsOnly, AreEqualByLabels, IsContraryOf, IsGivenBefore}
pub use Rattle.sm_cc.specs.Assumed.{AreClasses, numbers_where, placed_contraries, placed_equations, placed_fact, placed_for, with_fact}
pub use Rattle.sm_cc.specs.BaseClasses.{AreAllGiven, AreBaseClasses, AreInside, AreKeyed, AreNumberedBy, IsElementBelow, IsLedBy, IsRowBelow}
pub use Rattle.sm_cc.specs.Causes.{IsCause, IsCauseOf, IsDifference, IsHalfWitness, IsWitness, any_differs, are_given_apart, differ_in_form, differ_otherwise, has_constant, have_constant, is_between, is_constant_of, may_be_apart, rows_bring, rows_pair}
pub use Rattle.sm_cc.specs.Classes.{AreClosed, Same, Setting, are_apart, brings, differ, equal_lists, given_equal, given_unequal, if_there, reads_written}
pub use Rattle.sm_cc.specs.Closures.{Adds, AddsEquation, AddsPremises, AllRooted, GivenHere, Grows, IsNoted, IsSound, Noted, are_together, argument_at, arguments_at, arguments_in, board_of, fact_of, pair_of, placed_of}
pub use Rattle.sm_cc.specs.Exact.{IsExact, placed_with, with_equal, with_unequal}
pub use Rattle.sm_cc.specs.Explained.{AreLinesOf, Explain, IsLineOf, StandAt, added_by}
pub use Rattle.sm_cc.specs.Explaining.{AreStepsIn, IsOfTerms, congruence_line, known_fact, left_of, line_of, right_of, step_line}
pub use Rattle.sm_cc.specs.Firsts.{AreAlikeSettled, AreFirsts, AreHeadedSettled, AreKeysSettled, IsPairThere, Key, Keyed, KeysBring, TriesFirst, TriesFirsts, alike_at, first_met, headed_at, key_told, labels_of, met_at, row_key, same_key, same_part, shape_key, with_labels}
pub use Rattle.sm_cc.specs.Growing.{AreEntriesKept, AreGrown, AreKept, IsCopy, IsEntryCopy, IsSameRule, IsSameWhy}
pub use Rattle.sm_cc.specs.Labelled.{ArePlacesLabelled, AreTermsLabelled}
pub use Rattle.sm_cc.specs.Labels.{AreLabels, AreTermLabels}
pub use Rattle.sm_cc.specs.Log.{Alike, AllFollow, Before, By, Cong, Derives, Follows, HasElement, Placed, Refl, Rule, SayEqual, Subst, Sym, Why, known_at}
pub use Rattle.sm_cc.specs.Merges.{AddsSome, Bridges, Crosses, IsCoarser, IsLabel, IsRelabelled, MovesBelow, MovesRoots, relabelled}
pub use Rattle.sm_cc.specs.Numbered.{IsHeadAt, IsShapeAt, StandApart, head_of, heads_met, parts_met}
pub use Rattle.sm_cc.specs.Positions.{AreNoted, ArePositions, AreReadsBelow, HasNumber, HasPlaces, HasReads, HavePartsIn, first_or, first_place, is_read, place_at, same_pair}
pub use Rattle.sm_cc.specs.Regrounding.{AreLabelsKept, IsOver, KeysMeet, MeetsFirst, met_or, over_at}
pub use Rattle.sm_cc.specs.Rounds.{are_equal, follows, next_pairs, pairs_after, pairs_of}
pub use Rattle.sm_cc.specs.RowOf.{AreRowsFrom, HasTree, IsFurther, IsRowOf}
pub use Rattle.sm_cc.specs.Rows.{ApartPlaces, ArePlacesClosed, Board, PlacePairs, SamePlaces, equal_places, one_head, places_apart, places_differ, row_brings, rows_pass, shapes_pass}
pub use Rattle.sm_cc.specs.Scanned.{AreLooked, AreNew, AreQuiet, AreRootsSo, HaveOneKey, IsBehind, IsKeyNew, IsLabelFor, IsLabelOf, IsMetFor, IsQuiet, IsQuietBehind, alike_in, any_two, are_parted, has_labels, headed_in, seen}
pub use Rattle.sm_cc.specs.Settled.{AllPairsSettled, AreElementsSettled, AreGivenSettled, ArePairSettled, AreSettled, AreSinglesSettled, IsElementSettled, IsGivenSettled, IsReadSettled, IsSettledThere, Tries, pair_brings}
pub use Rattle.sm_cc.specs.Standing.{RowsStand, board_for, element_of, place_of, places_given, with_places}
pub use Rattle.sm_cc.specs.Steps.{AreClosedFrom, AreMarked, AreNumbers, ExplainPlaces, IsDraft, IsGiven, IsMarked, IsNumber, IsRenumbered, IsStated, Marks, MarksMore, NumbersEntry, StepsFollow, numbers_in, step_says}
pub use Rattle.sm_cc.specs.Views.{AreOfTwoTerms, ClassesValue, GivenFact, HaveOneSort, IsOfTwoTerms, IsTermOf, assertion_given, equation_of, setting_of, with_given}
pub use Rattle.sm_cc.specs.declared.behind.Scanned.{Scanned}
pub use Rattle.sm_cc.specs.declared.cause.Cause.{Cause}
pub use Rattle.sm_cc.specs.declared.explain.StepsBuilder.{StepsBuilder}
pub use Rattle.sm_cc.specs.declared.ground.BaseClasses.{BaseClasses}
pub use Rattle.sm_cc.specs.declared.ground.Numbering.{Numbering}
pub use Rattle.sm_cc.specs.declared.log.Step.{Step}
pub use Rattle.sm_cc.specs.declared.row.Shape.{Shape}
pub use Rattle.sm_cc.specs.declared.witness.Witness.{Witness}
