-- What proofs of this crate name of definitions and of the lemmas of other crates.
pub use Rattle.std.proofs.Common.{Bool, Bor, Err, IfSome, IsTrue, List, None, Ok, Option, Result, Some, [], ap, arith, drop, false, get_or, if◌then◌else◌, inl, inr, is_some, length, lt-ltb, map, max, nat_eq, nat_le, nat_lt, negsuc, not, option_map, pos, refl, reverse, rules, slice_get, subst, suc, sym, take, true, zero, ℕ, ℤ, ⊎_elim, ◌&&◌, ◌*◌, ◌++◌, ◌+◌, ◌-◌, ◌<◌, ◌==◌, ◌^◌, ◌||◌, ◌∙◌, ◌∷◌, ◌≡◌, ◌≢◌, ◌≤◌, ◌⊎◌}
pub use Rattle.std.proofs.Math.Path.{fun_ext}
pub use Rattle.std.proofs.lemmas.Bool.{cases_Bool, leb-true, ne_eqb}
pub use Rattle.std.proofs.lemmas.Bool.Decides.{Decides-eqb, Decides-ltb, nat_tests}
pub use Rattle.std.proofs.lemmas.List.{drop_all, drop_more, length-drop, length-map, map-append, nil_from_length, reverse-append, take_all, take_more}
pub use Rattle.std.proofs.lemmas.Map.{update_apart, update_here}
pub use Rattle.std.proofs.lemmas.Option.{get_or_from_slice_get, same_Some, slice_get-get_or, slice_get_past}
pub use Rattle.std.proofs.lemmas.Result.{IfOk-weaker}
pub use Rattle.std.specs.Fmt.{decimal, signed_decimal}
pub use Rattle.std.specs.HashMap.{get}
pub use Rattle.std.specs.List.{flat_map, list_any}
pub use Rattle.std.specs.Map.{lookup, update}
pub use Rattle.std.specs.Prelude.{OnOk, Vec}
pub use Rattle.std.specs.declared.alloc.Global.{Global}
pub use Rattle.sm_lemmas.proofs.Lists.{below_if_got, get_in_first, get_last, no_items}
pub use Rattle.sm_lemmas.proofs.Tests.{both_pass, lt_from_test}
pub use Rattle.sm_syntax.proofs.Assumed.{assumed_same, some_mapped}
pub use Rattle.sm_syntax.specs.claim.ConflictFree.{A, B, Copy, M, O, copy_of}
pub use Rattle.sm_syntax.specs.claim.Syntax.{Code, Condition, End, Expression, append}
pub use Rattle.sm_syntax.specs.declared.copies.PerCopy.{PerCopy}
pub use Rattle.sm_syntax.specs.declared.tree.Sort.{Sort}
pub use Rattle.sm_syntax.specs.declared.tree.Sort.TheVariants.{Arr, Num}
pub use Rattle.sm_syntax.specs.text.Parts.{Parts, by_copy, sort_of, sorted_outputs, task_of}
pub use Rattle.sm_syntax.specs.text.Sorts.{Sorts}
pub use Rattle.sm_syntax.specs.trees.Copies.{copy_named, number_of, of_copy}
pub use Rattle.sm_text.specs.Tasks.{parts_of}
pub use Rattle.sm_term.proofs.SameTermsLemmas.{same_tree_is, sort_itself}
pub use Rattle.sm_term.specs.Assertions.{Assertion, conj, negate}
pub use Rattle.sm_term.specs.Formulas.{NumberedFormula, assertion_in, numbered}
pub use Rattle.sm_term.specs.Heads.{arguments_of, same_head, terms_given}
pub use Rattle.sm_term.specs.SameTerms.{same_sort, same_tree}
pub use Rattle.sm_term.specs.Slots.{all_at_stores, at_stores, fill_arguments, fill_term}
pub use Rattle.sm_term.specs.Sorted.{AreFormsSorted, IsDeclaredIn, IsFormSorted, IsSorted, IsStoreSorted, tree_sort}
pub use Rattle.sm_term.specs.SymStores.{store_in, tree_or_start}
pub use Rattle.sm_term.specs.Symbolic.{SymbolicStore, comparison_form, form_of, term_of, with_term}
pub use Rattle.sm_term.specs.TableLaws.{AreApart, ExtendsTable}
pub use Rattle.sm_term.specs.Tables.{AreBefore, IsTermWithin, TableValue, codes_in, sorts_in, tree_at, tree_in, trees_in}
pub use Rattle.sm_term.specs.Terms.{Add, Arguments, Cell, Fun, Given, Havoc, Mul, Neg, Read, Slot, Start, Sub, Tree, Write}
pub use Rattle.sm_term.specs.declared.formula.Formula.{Formula}
pub use Rattle.sm_term.specs.declared.symbolic.SymStore.{SymStore}
pub use Rattle.sm_term.specs.declared.term.TermId.{TermId}
pub use Rattle.sm_plan.proofs.NodeListsExact.{counts_above, few_is, first_few, is_few, second_few, test_passed}
pub use Rattle.sm_plan.proofs.TablesWiden.{cut_back, longer, state_ready, state_stays, tree_stays, widens_cut, widens_same, widens_twice}
pub use Rattle.sm_plan.proofs.TargetsMade.{copy_back}
pub use Rattle.sm_plan.specs.Copies.{Copies, copies, each, has, is_inhabited, no_copies, subsets, with_copy}
pub use Rattle.sm_plan.specs.Filling.{AreOpen, IsWay, unknown_below}
pub use Rattle.sm_plan.specs.Limits.{is_kept, is_shallow}
pub use Rattle.sm_plan.specs.Masks.{set_of}
pub use Rattle.sm_plan.specs.NodeLists.{above_opened}
pub use Rattle.sm_plan.specs.Nodes.{Unfit, after_step, asks, both_ways, follows, is_branching, opened_by, rule_of, where_true}
pub use Rattle.sm_plan.specs.Plans.{Fault, Plan, Plans, Wrong, all_nodes, branches, count, due, expand, expand_all, joined, most_branches, nodes_of, size, sizes}
pub use Rattle.sm_plan.specs.ReadyStates.{AreSuccessorsReady, IsNodeReady}
pub use Rattle.sm_plan.specs.SortedStates.{AreStatesSorted, IsNodeSorted, IsStateSorted, IsTaskSorted}
pub use Rattle.sm_plan.specs.States.{State, keeps_goals, place, start_facts, start_of, start_state, start_store}
pub use Rattle.sm_plan.specs.Views.{forms_in, node_in, opened_in, state_in, stores_in, successor_in}
pub use Rattle.sm_plan.specs.declared.node.NodeRow.{NodeRow}
pub use Rattle.sm_expand.proofs.PlacedLemmas.{opened_fewer, opened_ready, plans_of, popped}
pub use Rattle.sm_expand.proofs.PlansWiden.{plan_ready, plan_stays, plans_ready, plans_stay}
pub use Rattle.sm_expand.specs.Cursors.{numbered_at}
pub use Rattle.sm_expand.specs.NumberedPlans.{ArePlansReady, IsKeepReady, IsPlanReady, NumberedNode, NumberedPlan, NumberedPlans, below, head, list_of, node_over, of_copy_or, plan_over, plans_over}
pub use Rattle.sm_expand.specs.PlacedStates.{ArePlacedReady, IsPlacedReady, placed_with, weight}
pub use Rattle.sm_expand.specs.declared.cursor.Cursor.{Cursor}
pub use Rattle.sm_expand.specs.declared.placed.PlacedState.{PlacedState}
pub use Rattle.sm_theory.proofs.LinesOver.{each_back, each_more, each_with, facts_with, reads_with, splits_with, with_same, with_twice}
pub use Rattle.sm_theory.specs.Equality.{chained, formula_if, is_inhabited_list, or_other, say_equal, says_equal, substituted, turned_contrary, turned_equation}
pub use Rattle.sm_theory.specs.Facts.{BranchFact}
pub use Rattle.sm_theory.specs.Lines.{Apart, Both, Cases, CertificateLine, Clash, Close, Cong, Either, Elim, Exact, Hit, Lin, Miss, Order, Refl, Same, Sides, Subst, Sym, Tight, Trans, contrary_at, equal_sides, equation_at, followed, form_at, form_in, formula_at, formula_in, unequal_sides}
pub use Rattle.sm_theory.specs.Named.{EachNamed, facts_named, is_split, reads_all}
pub use Rattle.sm_theory.specs.Views.{IsLineWithin, line_in}
pub use Rattle.sm_theory.specs.Ways.{Ways, adding, adds, both_parts, closing_if, either_part, ordered, splitting, ways}
pub use Rattle.sm_theory.specs.declared.line.CertLine.{CertLine}
pub use Rattle.sm_cert.proofs.CheckLemmas.{end_in, lines_closed, lines_of_end, tree_closed, tree_split, within_at, within_parts}
pub use Rattle.sm_cert.specs.Certificates.{Certificate, Closed, Closes, Next, Split, TooManySplits, bad_line, first_bad, splits_above}
pub use Rattle.sm_cert.specs.Views.{AreLinesWithin, certificate_in, end_layer, end_lines, lines_before, lines_of, tree_layer, tree_lines}
pub use Rattle.sm_cert.specs.declared.tree.CertTree.{CertTree, CertTree-F, fold-roll-CertTree, ind-CertTree, map-CertTree, roll-CertTree}
pub use Rattle.sm_proof.proofs.SpellingReadsBack.{spelled_back}
pub use Rattle.sm_proof.specs.FieldRanges.{AreNumbers, IsFormLineWithin, IsNodeLineWithin, IsTermLineWithin, IsWithinFields, numbers_of}
pub use Rattle.sm_proof.specs.HeadWords.{form_word, head_word, term_word, version_word}
pub use Rattle.sm_proof.specs.Lines.{Cert, Form, Header, NumberedLine, ProofLine}
pub use Rattle.sm_proof.specs.Named.{and_then, are_there, found_or, line_head, named_line, named_node, node_head, tested_or}
pub use Rattle.sm_proof.specs.Passing.{Branch, Pending, Progress, after_line, after_node, are_numbers, branches_before, form_about, form_from, form_made, goal_branch, have_one_sort, of_name, opened_before, present_term, start_progress, taken, taken_at, term_made, with_tree}
pub use Rattle.sm_proof.specs.Spelling.{HasKnownVersion, line_words, spelled}
pub use Rattle.sm_proof.specs.Verdicts.{Before, FileLines, Pass, Passes, Reached, Rejected, Standing, Subject, Underway, in_first_line, none_waits, opens_if, passes_version, reached_after, subject_of, verdict, verdict_at_end}
pub use Rattle.sm_proof.specs.Versions.{begins_exact, has_exact, is_exact, may_stand}
pub use Rattle.sm_proof.specs.declared.line.FormLine.{FormLine}
pub use Rattle.sm_proof.specs.declared.line.Line.{Line}
pub use Rattle.sm_proof.specs.declared.line.NodeLine.{NodeLine}
pub use Rattle.sm_proof.specs.declared.line.TermLine.{TermLine}
pub use Rattle.sm_proof.specs.declared.word.Head.{Head}
pub use Rattle.sm_proof.specs.declared.word.Word.{Word}
pub use Rattle.sm_proof.specs.declared.word.Word.TheVariants.{BadLine, BadNumber, Deep, First, Truncated}
pub use Rattle.sm_prune.specs.Texts.{AreReadable, IsReadable, Leads, advanced, bytes_of}
pub use Rattle.sm_write.specs.Bytes.{line_text, numbers_text, one_word, two_words}
pub use Rattle.sm_write.specs.Example.{ExampleIsWritable, idle_certificates, idle_plan}
pub use Rattle.sm_write.specs.FormsWritten.{NamesPair, WritesForm, form_over}
pub use Rattle.sm_write.specs.GoalsWritten.{GoalsLeft, IsAt, LeavesGoals}
pub use Rattle.sm_write.specs.Held.{HeldNamed, IsTreeNamed, NamesHeld, NamesOne, NamesState, NamesStore, Shows, is_atom, terms_store}
pub use Rattle.sm_write.specs.LineTerms.{first_term, second_term}
pub use Rattle.sm_write.specs.Nameable.{AllSides, EachInState, EachInStates, EachOf, EachSide, IsClosed, Nameable, PassesTest}
pub use Rattle.sm_write.specs.Naming.{IsLineOf, IsOpenPart, IsStep}
pub use Rattle.sm_write.specs.NodesWritten.{EachRow, IsKeptAt, NodeWritten, WritesKeep, WritesNode}
pub use Rattle.sm_write.specs.PlainPlans.{AreKeptPlain, ArePlainLines, CloseEach, NoTerm, PlainPlansAreWritable, branches_of}
pub use Rattle.sm_write.specs.PlanStates.{plan_states, plans_states, states_opened}
pub use Rattle.sm_write.specs.Ready.{AreClosed, AreReady, IsReady}
pub use Rattle.sm_write.specs.Seen.{IsAtom, IsBuilt, IsHeld, Seen}
pub use Rattle.sm_write.specs.Stepped.{ClosesBranch, IsGood, Leaves, LinesLeft, Opens, Stepped, Wrote}
pub use Rattle.sm_write.specs.TreesWithin.{AreTreesWithin}
pub use Rattle.sm_write.specs.Underway.{AllStandFor, IsFresh, IsUnderway, IsWhole, OpeningWritten, StandsFor}
pub use Rattle.sm_write.specs.Values.{value_of}
pub use Rattle.sm_write.specs.Versions.{HasVersion, has_exact_line, version_where}
pub use Rattle.sm_write.specs.Waiting.{AreWaiting, Waits, due_for, each_waits}
pub use Rattle.sm_write.specs.Walked.{AreBuiltAt, Extends, IsSet, KeepsNames, Walks}
pub use Rattle.sm_write.specs.Writable.{AreKeptNameable, AreShort, AreShortNumbers, AreShown, EachKept, Goal, IsShortLine, IsWritable, all_goals, denied, goals_of, states_until}
pub use Rattle.sm_write.specs.Writers.{Adds, AreSeenNamed, Stands, WriterValue}
pub use Rattle.sm_write.specs.Written.{AreNames, IsLineNamed, IsNamed, IsNumbered, Names, file_number, line_with, number_at, number_in, number_or, written}
