-- What proofs of this crate name of definitions and of the lemmas of other crates.
pub use Rattle.std.proofs.Common.{Bool, Bor, IsTrue, List, None, Option, Some, [], ap, ap₂, arith, false, filter, get_or, if◌then◌else◌, inl, inr, length, map, nat_abs, nat_eq, nat_le, nat_lt, neg_ℤ, negsuc, not, option_copied, pos, refl, rules, slice_get, subst, suc, sym, true, zero, ℕ, ℤ, ⊎_elim, ◌%◌, ◌&&◌, ◌*ℤ◌, ◌*◌, ◌++◌, ◌+ℤ◌, ◌+◌, ◌-ℤ◌, ◌-◌, ◌<◌, ◌==◌, ◌^◌, ◌||◌, ◌↔◌, ◌∙◌, ◌∷◌, ◌≡◌, ◌≢◌, ◌≤◌, ◌⊎◌}
pub use Rattle.std.proofs.lemmas.Bool.{and_from, and_parts, cases_Bool, eqb-true, false_from_ne_true, ltb-false, ltb-true, not-true}
pub use Rattle.std.proofs.lemmas.Bool.Decides.{Decides-eqb, Decides-int_eq, same_from_decides}
pub use Rattle.std.proofs.lemmas.Int.{ints, to_z-of_z}
pub use Rattle.std.proofs.lemmas.Option.{get_or_from_slice_get, slice_get-get_or, slice_get_past, slice_get_within}
pub use Rattle.std.proofs.lemmas.Result.{IfOk-weaker}
pub use Rattle.std.specs.HashMap.{get}
pub use Rattle.std.specs.List.{AllByRecursion, filter_map, list_all, list_any}
pub use Rattle.std.specs.Map.{lookup, update}
pub use Rattle.std.specs.Ordering.{int_eq}
pub use Rattle.std.specs.Prelude.{◌<ℤ◌, ◌≤ℤ◌}
pub use Rattle.sm_num.proofs.AlikeLemmas.{other_product_alone}
pub use Rattle.sm_num.proofs.FormValues.{combination_gives_value, sum_with_part, sum_without}
pub use Rattle.sm_num.proofs.KeptLemmas.{combined_among, combined_kept, eliminated_among, eliminated_kept, parts_apart, parts_from, parts_reduced}
pub use Rattle.sm_num.proofs.OutcomeLemmas.{Each, Gives, computed_gives, gives_both, gives_fits, gives_more, then_gives}
pub use Rattle.sm_num.proofs.ResultsReduced.{AreAmong, AreInside, IsReduced, combination_among, combination_reduced, divided_among, elimination_among, elimination_reduced, floor_some, reduced_some, tightened_among}
pub use Rattle.sm_num.proofs.RingLemmas.{mul-neg_left, one_mul, ring, sums}
pub use Rattle.sm_num.proofs.SameAtomLemmas.{AreReduced, IsApart, IsReflexive, IsSound, apart_zero, coefficient_filter, coefficient_one, coefficient_past, not_both, other_test, reduced_filter, same_atom_reflexive, same_atom_sound}
pub use Rattle.sm_num.specs.Combining.{Fits, Leaves, Outcome, combination, combined, combined_number, computed, formed, scaled, then_with, with_part}
pub use Rattle.sm_num.specs.Eliminating.{can_cancel, ceiling_of, divided_parts, divisor_of_parts, eliminated, elimination, floor_of}
pub use Rattle.sm_num.specs.FormLaws.{AreAlike, ComeOutAlike, renamed_outcome, same_atom, value_of_form}
pub use Rattle.sm_num.specs.Forms.{AreParts, HoldsAt, IsKept, Linear, Satisfies, coefficient, parts_without, renamed_form, sum_of_parts}
pub use Rattle.sm_num.specs.Range.{fits_form}
pub use Rattle.sm_num.specs.Tightening.{fails, has_no_part, is_contradictory, one_is_zero, tightened, tightened_by}
pub use Rattle.sm_num.specs.declared.kind.Kind.{Kind}
pub use Rattle.sm_syntax.specs.SameAs.{SameAs}
pub use Rattle.sm_syntax.specs.claim.Stores.{Store, Value, array, number, with_element, zero_value}
pub use Rattle.sm_syntax.specs.claim.Syntax.{Code}
pub use Rattle.sm_syntax.specs.declared.tree.Sort.{Sort}
pub use Rattle.sm_syntax.specs.declared.tree.Sort.TheVariants.{Arr, Num}
pub use Rattle.sm_syntax.specs.text.Sorts.{Sorts}
pub use Rattle.sm_term.proofs.HeadsLemmas.{same_head_has_sort, same_head_of_summaries}
pub use Rattle.sm_term.proofs.SameTermsLemmas.{same_sort_is, same_tree_is}
pub use Rattle.sm_term.specs.Assertions.{And, Assertion, Holds, Le, Lt, Ne, No, Or, Yes}
pub use Rattle.sm_term.specs.Fresh.{IsBelow, IsFormBelow}
pub use Rattle.sm_term.specs.Heads.{arguments_of, same_head, same_names, terms_given}
pub use Rattle.sm_term.specs.SameTerms.{same_sort, same_tree}
pub use Rattle.sm_term.specs.Sorted.{AreArgumentsSorted, AreFormsSorted, HasSort, IsDeclaredIn, IsFormSorted, IsSorted, sort_named, tree_sort}
pub use Rattle.sm_term.specs.Structures.{Structure, meaning, store_given, value_at}
pub use Rattle.sm_term.specs.TableLaws.{AreApart}
pub use Rattle.sm_term.specs.Tables.{IsTermWithin, codes_in, sorts_in, tree_at, tree_in, trees_in}
pub use Rattle.sm_term.specs.Terms.{Add, Arguments, Cell, Fun, Given, Havoc, Lit, Mul, Neg, Over, Read, Slot, Start, Sub, Tree, Write}
pub use Rattle.sm_term.specs.declared.term.Term.{Term}
pub use Rattle.sm_theory.specs.Arithmetic.{agree_with, arithmetic_adds, cancelled, compared_forms, difference, form_fact, form_of_comparison, is_numeric, one_more, same_parts, with_constant}
pub use Rattle.sm_theory.specs.Equality.{chained, equality_adds, formula_if, is_inhabited_list, or_other, say_equal, says_equal, substituted, turned_contrary, turned_equation}
pub use Rattle.sm_theory.specs.ExactLine.{exact_adds, form_by_places, forms_by_places, forms_of_branch, has_no_solution, is_in_range, parts_by_places, where_in_range, with_exact}
pub use Rattle.sm_theory.specs.Facts.{AreFacts, BranchFact, Formal, IsFact, Sum, as_facts, number_meant}
pub use Rattle.sm_theory.specs.FormsOfTerms.{AreFormsOf, AreOpen, Descends, IsFound, IsWay, missing_below}
pub use Rattle.sm_theory.specs.Laws.{AddsAnywhere, AddsWhatHolds, AddsWhatIsBelow, AddsWhatIsSorted, EachWay, NoWayHolds, SomeWayHolds, TheoryAdds, WaysAddSoMany, WaysAreBelow, WaysAreSorted, WaysMove, arithmetic, arrays, equality}
pub use Rattle.sm_theory.specs.LinearTerms.{atom_form, constant_form, linear_by, linear_of, or_atom, product_form, scaled_form}
pub use Rattle.sm_theory.specs.Lines.{Apart, Both, Cases, CertificateLine, Clash, Close, Cong, Either, Elim, Exact, Hit, Lin, LineOver, Miss, Order, Refl, Same, Sides, Subst, Sym, Tight, Trans, contrary_at, equal_sides, equation_at, followed, form_at, form_in, formula_at, formula_in, unequal_sides}
pub use Rattle.sm_theory.specs.Moved.{ReadsAlike, StandAmong, StandsMoved, moved_line}
pub use Rattle.sm_theory.specs.Named.{EachNamed, EachOf, facts_added, facts_named, is_split, reads_all, terms_named, with_terms}
pub use Rattle.sm_theory.specs.Sides.{OptionStands}
pub use Rattle.sm_theory.specs.SortedFacts.{AreFactsBelow, AreFactsSorted, EachAtom, IsFactBelow, IsFactSorted, IsLineBelow, IsLineSorted, StandOnce}
pub use Rattle.sm_theory.specs.Standing.{HasPlaces, HaveOnePlace, IsKeptFor, IsOutcomeFor, PlacesStay, StandsAt, StandsFor}
pub use Rattle.sm_theory.specs.TermsOfFormulas.{all_terms, is_among, with_arguments, with_formula, with_formulas, with_term}
pub use Rattle.sm_theory.specs.Views.{AllStand, Fact, FactStands}
pub use Rattle.sm_theory.specs.Ways.{Ways, adding, adds, both_parts, cannot_hold, closing_if, either_part, ordered, splitting, ways, ways_with}
