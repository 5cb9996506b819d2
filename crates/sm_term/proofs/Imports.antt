-- What proofs of this crate name of definitions and of the lemmas of other crates.
pub use Rattle.std.proofs.Common.{Bool, IfOk, IsTrue, List, None, Option, Some, [], ap, arith, drop, false, get_or, if◌then◌else◌, int_lt, is_some, length, map, nat_eq, nat_lt, neg_ℤ, not, option_copied, pos, refl, rules, slice_get, subst, suc, sym, take, true, true≢false, unwrap_or, zero, ℕ, ℤ, ⊎_elim, ◌&&◌, ◌++◌, ◌+◌, ◌-◌, ◌<◌, ◌==◌, ◌||◌, ◌↔◌, ◌∙◌, ◌∷◌, ◌≡◌, ◌≤◌}
pub use Rattle.std.proofs.Math.Seq.{get_or-append_seam, take-append_seam}
pub use Rattle.std.proofs.lemmas.Bool.{and_from, and_parts, cases_Bool, cases_lt, eqb-true, ltb-false, ltb-true, ne_eqb}
pub use Rattle.std.proofs.lemmas.Bool.Decides.{Decides-int_eq, not_from_Decides, same_from_decides}
pub use Rattle.std.proofs.lemmas.List.{append-nil, append_assoc, drop_all, drop_more, get_or-append-add, get_or-take, get_or_append_left, length-append, length-map, length-take, map-append, take-append-drop, take_all, take_more}
pub use Rattle.std.proofs.lemmas.Option.{get_or_from_slice_get, slice_get-get_or, slice_get_past, slice_get_within}
pub use Rattle.std.specs.Cmp.Derive.Mapped.{pointwise-map}
pub use Rattle.std.specs.List.{flat_map, fold, list_any, take-map}
pub use Rattle.std.specs.Prelude.{◌<ℤ◌, ◌≤ℤ◌}
pub use Rattle.sm_numbering.specs.Numbers.{with_value}
pub use Rattle.sm_syntax.specs.SameAs.{SameAs}
pub use Rattle.sm_syntax.specs.claim.ConflictFree.{A, B, Copy, M, O, copy_of}
pub use Rattle.sm_syntax.specs.claim.Meaning.{relation, run, truth_of, value_of}
pub use Rattle.sm_syntax.specs.claim.Stores.{Number, Store, Value, array, number}
pub use Rattle.sm_syntax.specs.claim.Syntax.{Code, Condition, End, Expression, Minus, Plus, Times, Var}
pub use Rattle.sm_syntax.specs.declared.tree.Name.{Name}
pub use Rattle.sm_syntax.specs.declared.tree.Sort.{Sort}
pub use Rattle.sm_syntax.specs.declared.tree.Sort.TheVariants.{Arr, Num}
pub use Rattle.sm_syntax.specs.text.Parts.{sort_of}
pub use Rattle.sm_syntax.specs.text.Sorts.{IsWellSorted, IsWellSortedCondition, IsWellSortedExpression, Sorts}
pub use Rattle.sm_syntax.specs.trees.Programs.{declared_of}
pub use Rattle.sm_syntax.specs.trees.Views.{code_of, condition_of, expression_of}
pub use Rattle.sm_term.specs.Assertions.{AllHold, Assertion, Holds, IsRefuted, IsValid, conj, negate}
pub use Rattle.sm_term.specs.Bodies.{block_of, body_code, same_body, same_body-Decides}
pub use Rattle.sm_term.specs.Fitting.{arguments_fit, has_sort, term_fits}
pub use Rattle.sm_term.specs.Formulas.{IsFormulaWithin, NumberedFormula, assertion_in, contrary, numbered}
pub use Rattle.sm_term.specs.Moves.{KeepsRows, bodies_in_list, codes_numbered, moved_body, moved_contents, moved_numbers, moved_part}
pub use Rattle.sm_term.specs.Pairs.{pair_row, pair_tree}
pub use Rattle.sm_term.specs.RowLaws.{Contents, contents_of, same_term-Decides, same_term-equiv}
pub use Rattle.sm_term.specs.Rows.{kind_numbers, names_in_list, names_of_term, parts_in_list, parts_of_term, same_term, term_numbers}
pub use Rattle.sm_term.specs.SameTerms.{is_copy, same_arguments, same_code, same_sort, same_tree}
pub use Rattle.sm_term.specs.Sorted.{AreArgumentsSorted, AreFormsSorted, IsDeclaredIn, IsFormSorted, IsSorted, IsStoreSorted, sort_named, tree_sort}
pub use Rattle.sm_term.specs.Structures.{Structure, meaning, store_given, value_at, with_havoc, with_slots}
pub use Rattle.sm_term.specs.SymStores.{IsStoreWithin, SymStore, store_in, tree_or_start}
pub use Rattle.sm_term.specs.Symbolic.{SymbolicStore, comparison_form, form_of, store_meant, term_of}
pub use Rattle.sm_term.specs.TableLaws.{AddsTerms, AreApart, AreCodesApart, AreCodesSorted, AreTermsSound, AreTreesSorted, ExtendsTable, IsTable, with_code, with_codes, with_tree, with_trees}
pub use Rattle.sm_term.specs.Tables.{AreBefore, AreNamesDeclared, IsTermWithin, TableValue, Term, arguments_in, code_at, codes_in, sorts_in, tree_at, tree_in, trees_behind, trees_in}
pub use Rattle.sm_term.specs.Tails.{row_codes, row_trees, trees_numbered}
pub use Rattle.sm_term.specs.Terms.{Add, Arguments, Fun, Given, Havoc, Mul, Over, Slot, Start, Sub, Tree, Write}
pub use Rattle.sm_term.specs.declared.body.Body.{Body}
pub use Rattle.sm_term.specs.declared.term.BodyId.{BodyId}
