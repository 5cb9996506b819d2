-- What proofs of this crate name of definitions and of the lemmas of other crates.
pub use Rattle.std.proofs.Common.{Bool, IfOk, List, None, OnOk, Option, Some, [], ap, arith, cond, drop, false, get_or, if◌then◌else◌, is_some, length, map, max, nat_lt, not, of_z, refl, rules, slice_get, subst, suc, sym, take, to_z, true, zero, ℕ, ℤ, ◌&&◌, ◌*◌, ◌++◌, ◌+◌, ◌<◌, ◌==◌, ◌||◌, ◌∙◌, ◌∷◌, ◌≡◌, ◌≤◌}
pub use Rattle.std.proofs.Math.Path.{fun_ext}
pub use Rattle.std.proofs.lemmas.Bool.{and_from, and_parts, eq-eqb, eqb-true, ltb-false, ltb-true, ne_eqb, or_parts}
pub use Rattle.std.proofs.lemmas.Grind.{flat_map-append}
pub use Rattle.std.proofs.lemmas.Int.{to_z-of_z}
pub use Rattle.std.proofs.lemmas.List.{append-nil, append_assoc, get_or-map, length-append, length-map, map-append, map_more, take_all, take_more}
pub use Rattle.std.proofs.lemmas.List.Sums.{fold-append}
pub use Rattle.std.proofs.lemmas.Option.{get_or_from_slice_get, slice_get-get_or, slice_get_within}
pub use Rattle.std.specs.Int.{w128}
pub use Rattle.std.specs.List.{filter, flat_map, list_any, range_with_len}
pub use Rattle.std.specs.Ordering.{int_eq, nat_cmp}
pub use Rattle.std.specs.Prelude.{fold}
pub use Rattle.sm_syntax.specs.claim.ConflictFree.{Copy}
pub use Rattle.sm_syntax.specs.claim.Fill.{Fillings}
pub use Rattle.sm_syntax.specs.claim.Syntax.{Assign, Code, Compare, Condition, End, Expression, Hole, If, Not, Skip, While, Write, append}
pub use Rattle.sm_syntax.specs.declared.copies.CopyName.{CopyName}
pub use Rattle.sm_syntax.specs.declared.program.Filling.{Filling}
pub use Rattle.sm_syntax.specs.declared.tree.Cmp.{Cmp}
pub use Rattle.sm_syntax.specs.declared.tree.Cond.{Cond, size-Cond}
pub use Rattle.sm_syntax.specs.declared.tree.Name.{Name}
pub use Rattle.sm_syntax.specs.declared.tree.Sort.{Sort}
pub use Rattle.sm_syntax.specs.declared.tree.Sort.TheVariants.{Arr, Num}
pub use Rattle.sm_syntax.specs.text.Conditions.{is_in}
pub use Rattle.sm_syntax.specs.text.Parts.{Parts, sort_of}
pub use Rattle.sm_syntax.specs.text.Sorts.{IsWellSorted, IsWellSortedCondition, IsWellSortedExpression, Sorts}
pub use Rattle.sm_syntax.specs.trees.Copies.{copy_named, of_copy}
pub use Rattle.sm_syntax.specs.trees.Programs.{declared_of, fillings_of, outputs_of}
pub use Rattle.sm_syntax.specs.trees.Views.{code_of, condition_of, expression_of, sequence, statement_of}
pub use Rattle.sm_deps.proofs.MembersLemmas.{either-either, either-false, if_ok, members-empty, members-insert, on_ok}
pub use Rattle.sm_deps.specs.Members.{either}
pub use Rattle.sm_term.proofs.ExpressionLemmas.{named_declared, sort_got, stays_got, store-more, there, tree_got, within_more}
pub use Rattle.sm_term.proofs.SameTermsLemmas.{same_sort_is, same_tree_is}
pub use Rattle.sm_term.proofs.TablesLemmas.{grows-not, grows-twice}
pub use Rattle.sm_term.specs.Assertions.{Assertion, Eq, Le, Lt, Ne}
pub use Rattle.sm_term.specs.Formulas.{IsFormulaWithin, NumberedFormula, assertion_in, numbered}
pub use Rattle.sm_term.specs.SameTerms.{is_copy, same_sort, same_tree}
pub use Rattle.sm_term.specs.Sorted.{HasSort, IsFormSorted, IsStoreSorted, sort_named, tree_sort}
pub use Rattle.sm_term.specs.SymStores.{IsStoreWithin, store_in, tree_or_start}
pub use Rattle.sm_term.specs.Symbolic.{SymbolicStore, term_of}
pub use Rattle.sm_term.specs.TableLaws.{AddsTerms, AreApart}
pub use Rattle.sm_term.specs.Tables.{AreBefore, TableValue, sorts_in, tree_at, trees_in}
pub use Rattle.sm_term.specs.Terms.{Add, Cell, Lit, Mul, Neg, Read, Slot, Start, Sub, Tree}
pub use Rattle.sm_term.specs.declared.formula.Formula.{Formula}
pub use Rattle.sm_term.specs.declared.symbolic.SymStore.{SymStore}
pub use Rattle.sm_term.specs.declared.term.TermId.{TermId}
pub use Rattle.sm_plan.proofs.SortedStates.{place_sorted}
pub use Rattle.sm_plan.proofs.SortedTerms.{sort_is, term_sorted}
pub use Rattle.sm_plan.proofs.StartsMade.{before_append, declared_at, declared_below, trees_of, trees_stay}
pub use Rattle.sm_plan.proofs.TablesWiden.{longer, tree_stays, widens_grown}
pub use Rattle.sm_plan.specs.Copies.{Copies, copies, has}
pub use Rattle.sm_plan.specs.Masks.{set_of}
pub use Rattle.sm_plan.specs.SortedStates.{AreOutputsDeclared}
pub use Rattle.sm_plan.specs.Starts.{AreNumbered}
pub use Rattle.sm_plan.specs.Statements.{guard_in, loop_body, loop_guard}
pub use Rattle.sm_plan.specs.States.{keeps_goals, place}
pub use Rattle.sm_plan.specs.Views.{forms_in, rest_code}
pub use Rattle.sm_moves.specs.CopySets.{only_in}
pub use Rattle.sm_template.specs.AddedForms.{AddsForms, IsFormMade}
pub use Rattle.sm_template.specs.Bounds.{AddsBounds, AreBoundsReady, IsBoundReady, bound_in, bounds_in, places_of}
pub use Rattle.sm_template.specs.Distinct.{distinct, with_new}
pub use Rattle.sm_template.specs.FirstLiterals.{with_literal, with_literals}
pub use Rattle.sm_template.specs.Guards.{guard_templates, next_to, slots, weaker}
pub use Rattle.sm_template.specs.Literals.{literals_filled, literals_in, literals_of, literals_tested, literals_used}
pub use Rattle.sm_template.specs.NameShapes.{AreShapesFit, FitsShape, FitsSide, above_any, above_by, adds_nothing, array_at_start, array_shapes, keeps_change, named_copies, named_pairs, number_at_start, number_shapes, of_goals, of_pairs, shape_form, shapes_of, side_tree}
pub use Rattle.sm_template.specs.SameFormulas.{same_formula}
pub use Rattle.sm_template.specs.Sites.{AreWrites, IsSiteOf}
pub use Rattle.sm_template.specs.Templates.{apart_by, block_templates, equal_cells, equal_copies, loop_templates, name_templates, shifted, unchanged, written_templates}
pub use Rattle.sm_template.specs.Written.{is_written, names_written}
pub use Rattle.sm_template.specs.declared.shapes.Shape.{Shape}
pub use Rattle.sm_template.specs.declared.shapes.Side.{Side}
