-- What proofs of this crate name of definitions and of the lemmas of other crates.
pub use Rattle.std.proofs.Common.{Bool, Err, IfOk, IfSome, IsTrue, List, None, Ok, Option, Result, Some, [], add-one, ap, arith, below_more, drop, false, get_or, if◌then◌else◌, inl, inr, is_some, length, map, nat_eq, nat_lt, negsuc, not, pos, refl, rules, slice_get, slice_index, subst, suc, sym, take, true, true≢false, zero, ⊎_elim, ◌&&◌, ◌*◌, ◌++◌, ◌+◌, ◌-◌, ◌<◌, ◌==◌, ◌||◌, ◌↔◌, ◌∙◌, ◌∷◌, ◌≡◌, ◌≤◌, ◌⊎◌}
pub use Rattle.std.proofs.lemmas.Bool.{cases_Bool, cases_lt, eq-eqb, eqb-true, ltb-false}
pub use Rattle.std.proofs.lemmas.Bool.Decides.{Decides-and, Decides-eqb, Decides-int_eq}
pub use Rattle.std.proofs.lemmas.List.{drop_all, drop_more, ext_get_or, get_or-map, get_or_append_left, get_or_push, length-append, length-map, length_push, map-append, take-append-le}
pub use Rattle.std.proofs.lemmas.List.Folds.{list_any_at}
pub use Rattle.std.proofs.lemmas.Option.{get_or_from_slice_get, slice_get-get_or, slice_get_within}
pub use Rattle.std.specs.HashMap.{get}
pub use Rattle.std.specs.List.{find, list_any}
pub use Rattle.std.specs.Prelude.{unwrap_or}
pub use Rattle.sm_lemmas.proofs.Lists.{get_last, get_mapped}
pub use Rattle.sm_lemmas.proofs.Tests.{both_pass, int_eq_sym, pair_decides, same_tests}
pub use Rattle.sm_num.specs.Combining.{Fits, Leaves, Outcome, combined, then_with}
pub use Rattle.sm_num.specs.Errors.{Explains, Returns}
pub use Rattle.sm_num.specs.Forms.{Linear}
pub use Rattle.sm_num.specs.Tightening.{is_contradictory}
pub use Rattle.sm_num.specs.declared.kind.Kind.{Kind}
pub use Rattle.sm_syntax.specs.text.Sorts.{Sorts}
pub use Rattle.sm_term.proofs.SameTermsLemmas.{same_sort_is, same_tree_is}
pub use Rattle.sm_term.specs.Assertions.{Assertion}
pub use Rattle.sm_term.specs.Formulas.{IsFormulaWithin, NumberedFormula, assertion_in, numbered}
pub use Rattle.sm_term.specs.SameTerms.{same_sort, same_tree}
pub use Rattle.sm_term.specs.Sorted.{IsSorted, tree_sort}
pub use Rattle.sm_term.specs.TableLaws.{AreApart}
pub use Rattle.sm_term.specs.Tables.{IsTermWithin, codes_in, sorts_in, tree_at, tree_in, trees_in}
pub use Rattle.sm_term.specs.Terms.{Add, Cell, Fun, Havoc, Lit, Mul, Neg, Read, Slot, Start, Sub, Tree, Write}
pub use Rattle.sm_term.specs.declared.formula.Formula.{Formula, size-Formula}
pub use Rattle.sm_term.specs.declared.term.Term.{Term}
pub use Rattle.sm_term.specs.declared.term.TermId.{TermId}
pub use Rattle.sm_theory.proofs.LinearLater.{parts_are_one, same_parts_stand, stands_later}
pub use Rattle.sm_theory.proofs.SidesLemmas.{numbers_tell}
pub use Rattle.sm_theory.specs.Arithmetic.{agree_with, is_numeric, one_more, same_parts}
pub use Rattle.sm_theory.specs.Equality.{or_other}
pub use Rattle.sm_theory.specs.LinearTerms.{constant_form, linear_by, linear_of}
pub use Rattle.sm_theory.specs.Standing.{AreLinearForms, HasPlaces, IsKeptFor, PlacesStay, StandsAt}
pub use Rattle.sm_pairs.specs.Pairs.{Pairs}
pub use Rattle.sm_pairs.specs.SameFormulas.{same_numbered}
pub use Rattle.sm_fm.specs.Elimination.{Cancels, Event, events}
pub use Rattle.sm_fm.specs.Taking.{Gives, TakesSum, Taking}
pub use Rattle.sm_list.specs.Parts.{AreFormulasWithin, all_numbered, assertions_in, numbered_at, pair_numbered}
pub use Rattle.sm_judge.specs.AllForms.{AreAllForms}
pub use Rattle.sm_judge.specs.Forms.{Closes, TooFar, Walked, class_forms, counted, eliminated_by, fact_forms, first_like, forms_of, is_zero, led, led_by_class, led_unless_zero, less_by, place_in}
pub use Rattle.sm_judge.specs.Holding.{Seen, Split, first_of, index_split, is_fact, is_held, is_refuted, order_split, part_split, same_formula}
pub use Rattle.sm_judge.specs.Keyed.{AreKeyed, HasKeys, key_of, mixed}
pub use Rattle.sm_judge.specs.Labelled.{TellClasses, first_label, noted_else, noted_first, noted_or}
pub use Rattle.sm_judge.specs.Making.{ArePairsWithin, Item, Made, Two, class_form, class_items, collected, comparison_at, difference_at, fact_items, first_place, form_at, held, linear_forms, no_form, pair_with, pairs_of, places_of, some_form, unless_zero, with_form}
pub use Rattle.sm_judge.specs.Places.{HavePlaces, HavePlacesBelow}
pub use Rattle.sm_judge.specs.Refutations.{AreSources, Contradict, GivesForms, IsSource, Source, comparison_by}
pub use Rattle.sm_judge.specs.Seeing.{disjuncts_of, is_disjunction, seen_in, split_in}
pub use Rattle.sm_judge.specs.Splits.{IsToldWithin, SplitsBranch, split_told}
pub use Rattle.sm_judge.specs.Summing.{AreNumbered, AreSums, IsSum, ShowsSums, TellsSums}
pub use Rattle.sm_judge.specs.Torn.{AreLinked, IsLastWith, IsPartnerIf, IsTornIf, any_torn, behind, differ, torn_by}
pub use Rattle.sm_judge.specs.declared.closing.BranchSplit.{BranchSplit}
pub use Rattle.sm_judge.specs.declared.eliminating.ElimLine.{ElimLine}
