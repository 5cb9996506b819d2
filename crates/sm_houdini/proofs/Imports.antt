-- What proofs of this crate name of definitions and of the lemmas of other crates.
pub use Rattle.std.proofs.Common.{Bool, List, [], add-one, ap, arith, div-lt_iff_lt-mul, drop, false, filter, get_or, if◌then◌else◌, inl, inr, is_none, length, max, mod-lt, mul-le-mul_right, mul_comm, nat_le, nat_lt, not, option_map, pos, refl, replicate, subst, suc, suc-mul, sym, take, true, zero, zero-add, zero-mul, ℕ, ℤ, ⊎_elim, ◌%◌, ◌&&◌, ◌*◌, ◌++◌, ◌+◌, ◌-◌, ◌/◌, ◌<◌, ◌==◌, ◌^◌, ◌||◌, ◌∙◌, ◌∷◌, ◌≡◌, ◌≤◌, ◌⊎◌}
pub use Rattle.std.proofs.Crossing.{crosses}
pub use Rattle.std.proofs.Math.Seq.{drop-cons, take-add}
pub use Rattle.std.proofs.lemmas.Bool.{and_from, and_parts, eq-eqb, eqb-true, or_from, or_left, or_right}
pub use Rattle.std.proofs.lemmas.Bool.Decides.{Decides-eqb, nat_tests}
pub use Rattle.std.proofs.lemmas.List.{append-nil, append_assoc, drop-drop, drop-map, drop_all, drop_more, get_or-drop, get_or-map, get_or-take, length-append, length-drop, length-map, length-take, length-take-le, map-append, map-set, take-append-drop, take-append-le, take-map, take_all, take_at, take_more}
pub use Rattle.std.proofs.lemmas.Option.{MatchOption-at_some, get_or_from_slice_get, same_Some, slice_get-get_or, slice_get_past, slice_get_within}
pub use Rattle.std.specs.List.{AllByRecursion, flat_map, list_all, list_any, range_with_len}
pub use Rattle.std.specs.Prelude.{Box, IfOk, IfSome, MatchOption, OnOk, Vec, is_some, option_to_list, unwrap_or}
pub use Rattle.std.specs.declared.alloc.AllocError.{AllocError}
pub use Rattle.std.specs.declared.alloc.Global.{Global}
pub use Rattle.sm_lemmas.proofs.Lists.{get_in_first, get_in_second, range_more}
pub use Rattle.sm_lemmas.proofs.Tests.{itself, le_from_test, le_true, never_true, or_true}
pub use Rattle.sm_par.specs.Results.{StandInOrder}
pub use Rattle.sm_syntax.specs.claim.ConflictFree.{A, B, Copy, M, O, program_of}
pub use Rattle.sm_syntax.specs.claim.Fill.{fill, filling}
pub use Rattle.sm_syntax.specs.claim.Syntax.{Assign, Code, Condition, End, Expression, Hole, If, Skip, While, append}
pub use Rattle.sm_syntax.specs.declared.tree.Cmp.{Cmp}
pub use Rattle.sm_syntax.specs.declared.tree.Sort.{Sort}
pub use Rattle.sm_syntax.specs.declared.tree.Sort.TheVariants.{Arr, Num}
pub use Rattle.sm_syntax.specs.text.Conditions.{Refusal, code_depth, code_nodes, double_hole, double_name, first_of_all, first_output_fault, first_sort_fault, hole_in_filling, ill_assumed, is_in, missing_filling, over, size_fault, unknown_hole}
pub use Rattle.sm_syntax.specs.text.Parts.{Parts, sort_of, task_of}
pub use Rattle.sm_syntax.specs.text.Sorts.{IsWellSorted, IsWellSortedCondition, IsWellSortedExpression, Sorts}
pub use Rattle.sm_syntax.specs.trees.Copies.{of_copy}
pub use Rattle.sm_syntax.specs.trees.Programs.{declared_of}
pub use Rattle.sm_syntax.specs.trees.Views.{code_of}
pub use Rattle.sm_replay.specs.Trials.{IsFirstViolation, IsLeast}
pub use Rattle.sm_replay.specs.declared.verdict.Verdict.{Verdict}
pub use Rattle.sm_term.specs.Assertions.{And, Assertion, Eq, Le, Lt, Ne, No, Or, Yes, conj, negate}
pub use Rattle.sm_term.specs.Formulas.{NumberedFormula, assertion_in, numbered}
pub use Rattle.sm_term.specs.Heads.{arguments_of, same_head, terms_given}
pub use Rattle.sm_term.specs.SameTerms.{is_copy, same_tree}
pub use Rattle.sm_term.specs.Slots.{all_at_stores, at_stores, fill_term}
pub use Rattle.sm_term.specs.Sorted.{AreArgumentsSorted, AreFormsSorted, HasSort, IsDeclaredIn, IsFormSorted, IsSorted, tree_sort}
pub use Rattle.sm_term.specs.Symbolic.{SymbolicStore, form_of, term_of}
pub use Rattle.sm_term.specs.TableLaws.{ExtendsTable}
pub use Rattle.sm_term.specs.Tables.{TableValue, sorts_in, tree_at, trees_in}
pub use Rattle.sm_term.specs.Terms.{Add, Arguments, Cell, Fun, Given, Havoc, Lit, Mul, Neg, Read, Slot, Start, Sub, Tree}
pub use Rattle.sm_term.specs.declared.formula.Formula.{Formula}
pub use Rattle.sm_plan.proofs.FillingForms.{ready_at}
pub use Rattle.sm_plan.proofs.NodeSorted.{node_sorted}
pub use Rattle.sm_plan.proofs.OpenedSame.{opened_same}
pub use Rattle.sm_plan.proofs.PlanSound.{joined_is, opened_is, passed}
pub use Rattle.sm_plan.proofs.SortedCode.{body_well, front_well, guard_well, rest_well}
pub use Rattle.sm_plan.proofs.SortedStates.{place_sorted, start_sorted}
pub use Rattle.sm_plan.proofs.SortedTerms.{conj_sorted, sort_is}
pub use Rattle.sm_plan.proofs.TablesWiden.{form_ready, forms_ready, widens_grown, widens_same, widens_twice}
pub use Rattle.sm_plan.specs.Copies.{Copies, copies, each, has, is_inhabited, no_copies, subsets, with_copy}
pub use Rattle.sm_plan.specs.Limits.{form_depth, form_nodes, is_kept, is_shallow}
pub use Rattle.sm_plan.specs.Nodes.{Node, Opened, Unfit, after_step, both_ways, is_branching, is_end, opened_by, rule_of, where_true}
pub use Rattle.sm_plan.specs.Plans.{Deep, Fault, Plans, Wrong, all_nodes, branches, count, due, expand, expand_all, joined, most_branches, nodes_of, obligations, size, sizes}
pub use Rattle.sm_plan.specs.ReadyStates.{AreFormsReady}
pub use Rattle.sm_plan.specs.SortedStates.{AreStatesSorted, IsNodeSorted, IsStateSorted, IsTaskSorted}
pub use Rattle.sm_plan.specs.Starts.{AreNumbered}
pub use Rattle.sm_plan.specs.Statements.{front, is_long, is_loop, is_over, last_guard, loop_body, loop_guard, rest_after}
pub use Rattle.sm_plan.specs.States.{State, keeps_goals, place, start_facts, start_state, start_store}
pub use Rattle.sm_plan.specs.Views.{forms_in}
pub use Rattle.sm_expand.proofs.NodeTaken.{forms_long}
pub use Rattle.sm_expand.proofs.PlansWiden.{dues_ready, dues_stay, plan_ready, plan_stays}
pub use Rattle.sm_expand.specs.NumberedPlans.{ArePlansReady, IsKeepReady, IsPlanReady, NumberedNode, NumberedPlan, NumberedPlans, plan_over, plans_over}
pub use Rattle.sm_expand.specs.Views.{AreDuesReady, due_in, numbered_plan, plan_in, simple_node}
pub use Rattle.sm_theory.specs.Facts.{BranchFact, Formal, as_facts}
pub use Rattle.sm_theory.specs.Named.{EachNamed, facts_named}
pub use Rattle.sm_theory.specs.Views.{IsLineWithin, line_in, numbered_line}
pub use Rattle.sm_theory.specs.declared.line.CertLine.{CertLine}
pub use Rattle.sm_cert.proofs.CertificateMoves.{moved_names, parts_none}
pub use Rattle.sm_cert.proofs.CheckLemmas.{end_in, lines_of_end, tree_split}
pub use Rattle.sm_cert.specs.Certificates.{Certificate, Closed, Next, Split, TooManySplits, bad_line, first_bad, lines_in, refused, splits_above}
pub use Rattle.sm_cert.specs.NamedTerms.{EachTerm}
pub use Rattle.sm_cert.specs.Views.{AreLinesWithin, certificate_in, end_layer, end_lines, lines_before, lines_of, tree_layer, tree_lines}
pub use Rattle.sm_cert.specs.declared.tree.CertTree.{CertTree, CertTree-F, fold-roll-CertTree, ind-CertTree, map-CertTree, roll-CertTree}
pub use Rattle.sm_list.specs.Branches.{IsOneOf, depth_of, greatest_of, parts_of_all, put_if, read_before, taken_apart, terms_of, with_all_reads, with_parts, with_reads, writes_on}
pub use Rattle.sm_list.specs.Parts.{AreFormulasWithin, all_numbered, assertions_in}
pub use Rattle.sm_list.specs.Renumbered.{AreTermsOf}
pub use Rattle.sm_judge.specs.Forms.{GoesOut, Opens, TooFar, Walked}
pub use Rattle.sm_solve.specs.Answers.{Certifies, NamesOnly, Tells, terms_walked}
pub use Rattle.sm_solve.specs.Sharing.{IsFactBase}
pub use Rattle.sm_solve.specs.Walk.{walk}
pub use Rattle.sm_solve.specs.declared.reach.Reach.{Reach}
pub use Rattle.sm_moves.proofs.SetsLemmas.{Each, each_append, each_filter, each_of_all}
pub use Rattle.sm_moves.specs.CodeShapes.{by_first_block, by_second_block, has_fork, has_hole, own_statements}
pub use Rattle.sm_moves.specs.CopySets.{all_copies, members, only_in, pairs, with_member, without}
pub use Rattle.sm_template.proofs.TemplatesLemmas.{HoldsOfTemplates, each_distinct, each_drop, each_take, of_block_templates, of_loop_templates}
pub use Rattle.sm_template.specs.Guards.{guard_templates, next_to, slots, weaker}
pub use Rattle.sm_template.specs.Templates.{apart_by, block_templates, equal_cells, equal_copies, loop_templates, name_templates, shifted, unchanged, written_templates}
pub use Rattle.sm_sketch.proofs.PickedLemmas.{each_picked}
pub use Rattle.sm_sketch.specs.ChoiceViews.{choice_in}
pub use Rattle.sm_sketch.specs.Choices.{Choice, all_chosen, chosen_at, conjoined, halved, kept_by, picked}
pub use Rattle.sm_sketch.specs.SketchViews.{numbered_end, numbered_sketch, numbered_sketches, sketch_in, stacked}
pub use Rattle.sm_sketch.specs.Sketches.{BlockSite, SketchNode, apart, each_of, ends, looped, node_with, plan_with, plans_with, site_at, sites_below, sites_of, turns_then}
pub use Rattle.sm_sketch.specs.declared.kept.TemplateChoice.{TemplateChoice}
pub use Rattle.sm_product.proofs.NodesLemmas.{EachBelow, EachNode, HoldsOfNodes, each_site, sketch_nodes}
pub use Rattle.sm_product.specs.ProductPlans.{full_choice, plan_of, templates}
pub use Rattle.sm_product.specs.Products.{branched, filled, forked, product, product_if, product_while, sketch_of, where_any}
pub use Rattle.sm_product.specs.Sizes.{is_small}
pub use Rattle.sm_sided.specs.WholePlan.{AreClosed, IsShown, KeepsNone, denied_goals, summary_before, whole_plan}
pub use Rattle.sm_write.proofs.BranchNameable.{branches_are_nameable, states_are_nameable}
pub use Rattle.sm_write.proofs.BuiltTerms.{IsStoreBuilt, built_more, conj_sides, form_built, negate_sides, sides_append, sides_more, term_built}
pub use Rattle.sm_write.proofs.ReadyPlans.{term_more}
pub use Rattle.sm_write.proofs.SimpleNameable.{goals_nameable, kept_nameable}
pub use Rattle.sm_write.specs.BranchTerms.{HasTerms, IsTermOf}
pub use Rattle.sm_write.specs.Nameable.{AllSides, EachInStates, EachOf, EachSide, IsClosed, Nameable, PassesTest}
pub use Rattle.sm_write.specs.PlainPlans.{AreKeptPlain, ArePlainLines, CloseEach, NoTerm, branches_of}
pub use Rattle.sm_write.specs.PlanStates.{plan_states, plans_states, states_opened}
pub use Rattle.sm_write.specs.Seen.{IsAtom, IsBuilt}
pub use Rattle.sm_write.specs.TreesWithin.{AreTreesWithin}
pub use Rattle.sm_write.specs.Writable.{AreKeptNameable, AreShort, AreShortNumbers, AreShown, EachKept, Goal, IsShort, IsShortLine, IsWritable, all_goals, denied, goals_of, states_until}
pub use Rattle.sm_goals.proofs.FormsLemmas.{forms_same, forms_sorted, forms_within, goals_ready, ready_found}
pub use Rattle.sm_goals.proofs.NodesLemmas.{facts_at}
pub use Rattle.sm_goals.proofs.SharedLemmas.{due_sync, table_sync}
pub use Rattle.sm_goals.proofs.TablesLemmas.{first_within, front_stays, front_within}
pub use Rattle.sm_goals.specs.Nodes.{IsNodeOf}
pub use Rattle.sm_houdini.specs.Certified.{AllNameShort, AreCertified, HasCertificate, IsCertified, NamesShort, asked}
pub use Rattle.sm_houdini.specs.Closing.{Knows, closes_at, closing, owner_in, stays_at}
pub use Rattle.sm_houdini.specs.Collected.{AreCollected, AreInsideClosed, FinalCloses, FinalStops, GoalCloses, GoalStops, GoalsClose, GoalsStop, RunCloses, RunStops, goals_with, stop_in}
pub use Rattle.sm_houdini.specs.Dealing.{dealt, placed}
pub use Rattle.sm_houdini.specs.EndJobs.{ArePlanEnds, AreRunEnds, IsPartEnd, IsRunEnd, PlanEndsValue, TellsEnd, goals_from, size_of}
pub use Rattle.sm_houdini.specs.GoalJobs.{RoundGoalsValue, TellsShare, holds_at_shared}
pub use Rattle.sm_houdini.specs.Known.{AreKnown, ClosesAll, IsAsked, IsAskedBefore, is_flagged}
pub use Rattle.sm_houdini.specs.Laws.{AllAskChosen, AllClose, AllOwnedClose, AreFinalUnowned, AskedUnderFewer, CertifiedAreShort, ConflictIsLeast, DroppedAreRefuted, FinalHasNoOwner, IsRefuted, KeptExpands, KeptIsInductive, OutcomeIsOne, SearchIsWritable, ShownInRounds, SitesAskChosen, ValidIsSearchable, round_at}
pub use Rattle.sm_houdini.specs.Marks.{Marked, all_marked, has_mark, in_share, is_there, joins, marked, rows, still_marked}
pub use Rattle.sm_houdini.specs.NodeJobs.{NodeGoalsValue, TellsNodes, all_below, holds_but, holds_in_job, is_left_out, leaves_out, number_at}
pub use Rattle.sm_houdini.specs.Obligations.{AsksChosen, HasAll, HasTemplates, IsShownUnder, Obligation, StandIn, states_of}
pub use Rattle.sm_houdini.specs.Outcomes.{Accepted, Coefficient, Conflict, IsOutcome, Open, Outcome, final_outcome, goal_outcome, goals_outcome, is_closing, kept_dues, or_conflict, plan_outcome}
pub use Rattle.sm_houdini.specs.Owners.{owner_of, owners, owners_below}
pub use Rattle.sm_houdini.specs.Rounds.{closes_if, dues_of, holds_at, is_site, kept, next_round, numbers_kept, same_choice, same_numbers, settled, sites_kept, total}
pub use Rattle.sm_houdini.specs.Searchable.{Accepts, TellsPlan, TellsStop, plan_decides}
pub use Rattle.sm_houdini.specs.SitesBelow.{Puts, PutsAll, chosen_from, owners_from, targets}
pub use Rattle.sm_houdini.specs.declared.asked.Asked.{Asked}
pub use Rattle.sm_houdini.specs.declared.ending.Stop.{Stop}
pub use Rattle.sm_houdini.specs.declared.marks.Marks.{Marks}
pub use Rattle.sm_houdini.specs.declared.run_ends.RunEnd.{RunEnd}
