-- What proofs of this crate name of definitions and of the lemmas of other crates.
pub use Rattle.std.proofs.Common.{Bool, Err, IsTrue, List, None, Ok, Option, Result, Some, [], ap, arith, bit_and, cond, drop, drop-cons, false, get_or, if◌then◌else◌, inl, inr, is_none, length, map, max, nat_eq, nat_le, not, option_map, pos, refl, rules, slice_get, slice_set, subst, suc, sym, take, true, zero, ℕ, ℤ, ⊎_elim, ◌&&◌, ◌*◌, ◌++◌, ◌+ℤ◌, ◌+◌, ◌-◌, ◌<◌, ◌==◌, ◌||◌, ◌∙◌, ◌∷◌, ◌≡◌, ◌≢◌, ◌≤◌, ◌⊎◌}
pub use Rattle.std.proofs.Math.Path.{fun_ext}
pub use Rattle.std.proofs.Math.Seq.{take-append_seam, take-suc-set}
pub use Rattle.std.proofs.lemmas.Bool.{and_from, and_parts, cases_Bool, eqb-false, eqb-true, le-leb, leb-true, or_left, or_right}
pub use Rattle.std.proofs.lemmas.Bool.Decides.{Decides-eqb, leb_tells, nat_tests}
pub use Rattle.std.proofs.lemmas.Grind.{common_steps, flat_map-append}
pub use Rattle.std.proofs.lemmas.Int.{ints}
pub use Rattle.std.proofs.lemmas.List.{length-append, length-map, length-take-le, map-append, map_more, take_all, take_more}
pub use Rattle.std.proofs.lemmas.List.Elements.{All-cons, All-contains, All-nil, filter-append}
pub use Rattle.std.proofs.lemmas.Option.{get_or_from_slice_get, same_Some, slice_get-get_or, slice_get_read, slice_get_within}
pub use Rattle.std.proofs.lemmas.Result.{IfOk-at_ok, IfOk-weaker}
pub use Rattle.std.specs.HashMap.{get}
pub use Rattle.std.specs.List.{filter, flat_map, range_with_len}
pub use Rattle.std.specs.Map.{lookup, update}
pub use Rattle.std.specs.Prelude.{All, Contains, MatchOption, ◌<ℤ◌, ◌≤ℤ◌}
pub use Rattle.sm_lemmas.proofs.Lists.{get_mapped, get_set, range_more}
pub use Rattle.sm_syntax.proofs.Appends.{append-End, run-append}
pub use Rattle.sm_syntax.proofs.Blocks.{block_is, block_then, statement_layer_is}
pub use Rattle.sm_syntax.proofs.EachCopy.{each_copy}
pub use Rattle.sm_syntax.proofs.Unassigned.{unassigned}
pub use Rattle.sm_syntax.specs.Assigns.{assigns}
pub use Rattle.sm_syntax.specs.claim.ConflictFree.{A, B, ConflictFree, Copy, M, Meets, O, Task, copy_of, program_of}
pub use Rattle.sm_syntax.specs.claim.Keeps.{Element, Keeps, KeepsChange, Scalar, variable}
pub use Rattle.sm_syntax.specs.claim.Meaning.{and_then, run, truth_of, turns, value_of, written}
pub use Rattle.sm_syntax.specs.claim.Stores.{Array, Number, Store, Value, array, number, put, with_element, zero_value}
pub use Rattle.sm_syntax.specs.claim.Syntax.{Code, Condition, End, Expression, append}
pub use Rattle.sm_syntax.specs.declared.copies.PerCopy.{PerCopy}
pub use Rattle.sm_syntax.specs.declared.tree.Cmp.{Cmp}
pub use Rattle.sm_syntax.specs.declared.tree.Name.{Name}
pub use Rattle.sm_syntax.specs.declared.tree.Sort.{Sort}
pub use Rattle.sm_syntax.specs.declared.tree.Sort.TheVariants.{Arr, Num}
pub use Rattle.sm_syntax.specs.declared.tree.Stmt.{Stmt, Stmt-F}
pub use Rattle.sm_syntax.specs.text.Conditions.{is_in}
pub use Rattle.sm_syntax.specs.text.Parts.{by_copy, sort_of, sorted_outputs}
pub use Rattle.sm_syntax.specs.text.Sorts.{IsAsDeclared, IsWellSorted, IsWellSortedCondition, IsWellSortedExpression, Sorts}
pub use Rattle.sm_syntax.specs.trees.Copies.{copy_named, number_of, of_copy}
pub use Rattle.sm_syntax.specs.trees.Programs.{declared_of, outputs_of}
pub use Rattle.sm_syntax.specs.trees.Views.{code_of, condition_of, expression_of, sequence, statement_layer, statement_of}
pub use Rattle.sm_deps.proofs.InputsDeclared.{assigned_declared, inputs_declared}
pub use Rattle.sm_deps.specs.Inputs.{inputs}
pub use Rattle.sm_term.proofs.AssertionsLemmas.{conj_means, form_means, holds_append, holds_parts}
pub use Rattle.sm_term.proofs.ExpressionLemmas.{name_made, name_stored, named_declared, number_made, sort_got, sorted_more, stays_got, store-more, there, tree_got, within_more}
pub use Rattle.sm_term.proofs.FormsLemmas.{assertion-more, contrary_within, form_kept}
pub use Rattle.sm_term.proofs.FormulasLemmas.{contrary_negates}
pub use Rattle.sm_term.proofs.FreshLemmas.{below_append, forms_later, fresh_all, fresh_meaning, fresh_means, tree_later}
pub use Rattle.sm_term.proofs.SortedForms.{forms_append, negate_sorted}
pub use Rattle.sm_term.proofs.TablesLemmas.{grows-not, grows-twice}
pub use Rattle.sm_term.proofs.TermsLemmas.{named, part_before}
pub use Rattle.sm_term.proofs.TreesLemmas.{before-later, tree_at-more}
pub use Rattle.sm_term.specs.Assertions.{AllHold, Assertion, Holds, conj, negate}
pub use Rattle.sm_term.specs.Fitting.{arguments_fit, has_sort, term_fits}
pub use Rattle.sm_term.specs.Formulas.{IsFormulaWithin, NumberedFormula, assertion_in, numbered}
pub use Rattle.sm_term.specs.Fresh.{AreBelow, AreFormsBelow, IsBelow, IsFormBelow}
pub use Rattle.sm_term.specs.Rows.{names_in_list}
pub use Rattle.sm_term.specs.SameTerms.{is_copy, same_sort}
pub use Rattle.sm_term.specs.Slots.{all_at_stores, at_stores, fill_arguments, fill_term}
pub use Rattle.sm_term.specs.Sorted.{AreArgumentsSorted, AreFormsSorted, HasSort, IsDeclaredIn, IsFormSorted, IsSorted, IsStoreSorted, sort_named, tree_sort}
pub use Rattle.sm_term.specs.Structures.{Structure, meaning, store_given, value_at, with_havoc, with_slots}
pub use Rattle.sm_term.specs.SymStores.{IsStoreWithin, store_in, tree_or_start}
pub use Rattle.sm_term.specs.Symbolic.{SymbolicStore, comparison_form, form_of, store_meant, term_of, with_term}
pub use Rattle.sm_term.specs.TableLaws.{AddsTerms, AreTreesSorted, ExtendsTable}
pub use Rattle.sm_term.specs.Tables.{AreBefore, AreNamesDeclared, IsTermWithin, TableValue, arguments_in, code_at, codes_in, sorts_in, tree_at, tree_in, trees_in}
pub use Rattle.sm_term.specs.Terms.{Add, Arguments, Fun, Given, Havoc, Lit, Mul, Neg, Read, Slot, Start, Sub, Tree}
pub use Rattle.sm_term.specs.declared.formula.Formula.{Formula, size-Formula}
pub use Rattle.sm_term.specs.declared.symbolic.SymStore.{SymStore}
pub use Rattle.sm_term.specs.declared.term.TermId.{TermId}
pub use Rattle.sm_plan.specs.BlockParts.{IsBlockOf, IsBlockReady, after_block, block_alone}
pub use Rattle.sm_plan.specs.Copies.{Copies, all_subsets, choices, copies, copies_that, each, has, is_inhabited, no_copies, subsets, with_copy}
pub use Rattle.sm_plan.specs.Filling.{AreKnown, AreOpen, ArePartsKnown, Descends, IsFilled, IsFilling, IsFound, IsSummary, IsWay, at_name, unknown_below}
pub use Rattle.sm_plan.specs.Heads.{after_of, guard_forms, guards_at, turn_of, turned, turned_guards, with_new}
pub use Rattle.sm_plan.specs.Kept.{depth_in, nodes_in, parts_in}
pub use Rattle.sm_plan.specs.Limits.{form_depth, form_nodes, is_kept, is_shallow}
pub use Rattle.sm_plan.specs.LoopHeads.{IsHeadReady, stores_at}
pub use Rattle.sm_plan.specs.Masks.{mask_of, set_of}
pub use Rattle.sm_plan.specs.NodeLists.{NodesProve, Pending, above_opened, pending_states, start_pending, states_of}
pub use Rattle.sm_plan.specs.Nodes.{Abs, Dead, Ends, Fork, IsFreshAt, Loop, Node, Step, Unfit, after_step, asks, both_ways, follows, is_branching, opened_by, rule_of, where_true}
pub use Rattle.sm_plan.specs.Openings.{AreNamesBelow, IsBranch, IsOpening, done_if, terms_named}
pub use Rattle.sm_plan.specs.Plans.{AllDischarged, AllValid, AreFresh, At, Deep, Due, Fault, IsFresh, More, Plan, Plans, Wrong, all_nodes, branches, count, due, expand, expand_all, joined, most_branches, nodes_of, obligations, opened, size, sizes}
pub use Rattle.sm_plan.specs.ReadyStates.{AreFormsReady, AreStoresFull, AreStoresReady, AreSuccessorsReady, IsFormReady, IsStateReady, IsStoreFull, IsStoreReady, IsSuccessorReady, Successor}
pub use Rattle.sm_plan.specs.SortedStates.{AreOutputsDeclared, AreStatesSorted, IsAssumptionSorted, IsNodeSorted, IsStateSorted, IsTaskSorted}
pub use Rattle.sm_plan.specs.SoundStates.{AreSound, AreStatesBelow, IsSound, IsStateBelow}
pub use Rattle.sm_plan.specs.Starts.{AreAllWithin, AreNumbered, goals_over, with_sorts}
pub use Rattle.sm_plan.specs.Statements.{Statement, by_first, first_of, front, is_long, is_loop, is_over, last_guard, loop_body, loop_guard, put_before, rest_after}
pub use Rattle.sm_plan.specs.States.{State, keeps_goals, place, start_facts, start_state, start_store}
pub use Rattle.sm_plan.specs.Successors.{after_block_state, after_loops_state, branch_state, false_guard, guard_fact, head_stores, inner_state, moved, present, renewed, stepped, summarized, summary_state, turn_state, with_facts}
pub use Rattle.sm_plan.specs.Views.{Continuation, NodeRow, code_before, forms_in, frames_before, node_in, opened_in, rest_code, state_in, stores_in, successor_in}
pub use Rattle.sm_plan.specs.declared.blocks.BlockParts.{BlockParts}
pub use Rattle.sm_plan.specs.declared.filling.Filling.{Filling}
pub use Rattle.sm_plan.specs.declared.state.Formulas.{Formulas}
