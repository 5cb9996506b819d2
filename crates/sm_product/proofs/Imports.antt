-- What proofs of this crate name of definitions and of the lemmas of other crates.
pub use Rattle.std.proofs.Common.{Bool, Bor, List, None, Option, Some, [], ap, append-nil, arith, bit_and, cond, drop, false, get_or, if◌then◌else◌, inl, inr, length, map, max, nat_le, not, option_map, pos, refl, rules, slice_get, subst, suc, sym, take, true, vec_len, zero, ℕ, ℤ, ◌&&◌, ◌*◌, ◌++◌, ◌+◌, ◌-◌, ◌/◌, ◌<◌, ◌==◌, ◌||◌, ◌∙◌, ◌∷◌, ◌≡◌, ◌≤◌}
pub use Rattle.std.proofs.Math.Path.{fun_ext}
pub use Rattle.std.proofs.lemmas.Bool.{and_parts, lt-leb, lt-ltb, or_parts}
pub use Rattle.std.proofs.lemmas.List.{length-append, length-drop, length-map, length-take, map-append, take-append-drop, take_more}
pub use Rattle.std.proofs.lemmas.Result.{IfErr-weaker, IfOk-weaker}
pub use Rattle.std.specs.List.{filter, list_any, range_with_len}
pub use Rattle.std.specs.Prelude.{Vec, option_to_list, unwrap_or}
pub use Rattle.sm_syntax.proofs.Appends.{append-End, fill-append}
pub use Rattle.sm_syntax.proofs.Blocks.{block_is, sequence-push, sequence_then, statement_is}
pub use Rattle.sm_syntax.specs.claim.ConflictFree.{A, B, Copy, M, O, copy_of, program_of}
pub use Rattle.sm_syntax.specs.claim.Fill.{fill, filling}
pub use Rattle.sm_syntax.specs.claim.Syntax.{Assign, Code, Compare, Condition, End, Expression, Hole, If, Minus, Neg, Plus, Read, Skip, Times, Var, While, Write, append}
pub use Rattle.sm_syntax.specs.declared.copies.PerCopy.{PerCopy}
pub use Rattle.sm_syntax.specs.declared.tree.Cmp.{Cmp}
pub use Rattle.sm_syntax.specs.declared.tree.Sort.{Sort}
pub use Rattle.sm_syntax.specs.declared.tree.Sort.TheVariants.{Arr, Num}
pub use Rattle.sm_syntax.specs.declared.tree.Stmt.{Stmt}
pub use Rattle.sm_syntax.specs.text.Parts.{Parts, by_copy, sorted_outputs, task_of}
pub use Rattle.sm_syntax.specs.text.Sorts.{IsWellSorted, Sorts}
pub use Rattle.sm_syntax.specs.trees.Copies.{copy_named, of_copy}
pub use Rattle.sm_syntax.specs.trees.Views.{code_of, condition_of, expression_of, statement_of}
pub use Rattle.sm_text.specs.Tasks.{parts_of}
pub use Rattle.sm_term.specs.Assertions.{Assertion, Eq, Le, Ne, Or, conj}
pub use Rattle.sm_term.specs.SameTerms.{is_copy, same_code}
pub use Rattle.sm_term.specs.Symbolic.{SymbolicStore, term_of}
pub use Rattle.sm_term.specs.TableLaws.{ExtendsTable}
pub use Rattle.sm_term.specs.Tables.{TableValue, sorts_in, trees_in}
pub use Rattle.sm_term.specs.Terms.{Add, Cell, Slot, Start, Tree}
pub use Rattle.sm_plan.proofs.CopiesLemmas.{In, has_that, in_filter, in_map, one_copy}
pub use Rattle.sm_plan.proofs.SortedCode.{append_well, front_well, rest_well}
pub use Rattle.sm_plan.proofs.TablesWiden.{forms_ready, forms_stay, widens_twice}
pub use Rattle.sm_plan.proofs.TurnsMade.{bodies_ready, filter_push, masked, passed_ready}
pub use Rattle.sm_plan.specs.Copies.{Copies, copies, each, has, is_inhabited, no_copies, subsets, with_copy}
pub use Rattle.sm_plan.specs.Limits.{is_kept, is_shallow}
pub use Rattle.sm_plan.specs.Masks.{bit_of, set_of}
pub use Rattle.sm_plan.specs.Nodes.{Abs, Dead, Ends, Fork, IsFreshAt, Loop, Node, Opened, Step, Unfit, after_step, both_ways, is_branching, opened_by, rule_of, where_true}
pub use Rattle.sm_plan.specs.Plans.{AreFresh, Deep, Fault, IsFresh, Plan, Plans, Wrong, branches, count, due, expand, expand_all, joined, most_branches, nodes_of, obligations, opened, size, sizes}
pub use Rattle.sm_plan.specs.Statements.{front, is_long, is_loop, is_over, loop_body, rest_after}
pub use Rattle.sm_plan.specs.States.{State, keeps_goals, place, start_state}
pub use Rattle.sm_plan.specs.Views.{code_before, forms_in, rest_code}
pub use Rattle.sm_plan.specs.declared.state.Formulas.{Formulas}
pub use Rattle.sm_expand.specs.Views.{FaultTells, due_in, dues_in, plan_in}
pub use Rattle.sm_moves.proofs.CodesLemmas.{blocks_no_hole, body_no_hole, fewer_after, fewer_inside, fewer_ways, fork_append, long_append, loop_append, loop_left, own_front, own_long, own_rest, rest_append, rest_no_hole, simple_append, simple_left}
pub use Rattle.sm_moves.proofs.MovesLemmas.{MoveSays, move_says, uninhabited}
pub use Rattle.sm_moves.proofs.SetsLemmas.{AreReady, Each, IsOneOf, IsWithin, Waits, among_members, each_append, each_moved, each_moved_is, each_of_all, each_ready, each_subset, members_wait, other_copies}
pub use Rattle.sm_moves.proofs.WalksLemmas.{fork-append, found_here, not_here, nowhere, statement_within, whole_block}
pub use Rattle.sm_moves.specs.CodeShapes.{by_first_block, by_second_block, has_fork, has_hole, is_fork, is_simple, own_statements, statements_in}
pub use Rattle.sm_moves.specs.CopySets.{all_copies, members, only_in, with_member, without}
pub use Rattle.sm_moves.specs.FilledCode.{AreFilledAs, block_codes, first_inside, piece_of, second_inside}
pub use Rattle.sm_moves.specs.Moves.{Done, Forks, Loops, Steps, Summaries, is_shared, move_of, moved_on}
pub use Rattle.sm_moves.specs.MovesWithin.{IsMoveWithin}
pub use Rattle.sm_moves.specs.ProgramMoves.{move_in}
pub use Rattle.sm_moves.specs.Rests.{codes_in}
pub use Rattle.sm_template.proofs.TemplatesLemmas.{HoldsOfTemplates, each_drop, each_take, of_block_templates, of_loop_templates}
pub use Rattle.sm_template.specs.Guards.{guard_templates, slots, weaker}
pub use Rattle.sm_template.specs.Sites.{IsSiteOf, IsSiteReady}
pub use Rattle.sm_template.specs.Templates.{block_templates, loop_templates}
pub use Rattle.sm_sketch.proofs.PickedLemmas.{each_picked}
pub use Rattle.sm_sketch.proofs.SketchesWiden.{sketch_ready, sketch_stays, sketches_ready, sketches_stay}
pub use Rattle.sm_sketch.specs.Choices.{Choice, all_chosen, chosen_at, conjoined, halved, kept_by, picked}
pub use Rattle.sm_sketch.specs.Errors.{TellsSketch}
pub use Rattle.sm_sketch.specs.SketchSizes.{IsTooLarge, deepest_below, is_branching_node, sizes_below, sketch_depth, sketch_size}
pub use Rattle.sm_sketch.specs.SketchViews.{AreSketchesReady, IsSketchReady, sketch_in}
pub use Rattle.sm_sketch.specs.Sketches.{BlockSite, Draw, LoopSite, More, Over, Plain, SketchNode, Sketches, apart, each_of, ends, forking, looped, node_with, plan_with, plans_with, site_at, sites_below, sites_of, then_draw, turns_then}
pub use Rattle.sm_sketch.specs.declared.error.ProductError.{ProductError}
pub use Rattle.sm_product.specs.Drawn.{IsDrawn}
pub use Rattle.sm_product.specs.Errors.{TellsTask}
pub use Rattle.sm_product.specs.Laws.{AreKept, HaveNoHole, ProductExpands, ValidHasNoHole}
pub use Rattle.sm_product.specs.LoopTurns.{HaveLoops, turn_of}
pub use Rattle.sm_product.specs.MiniProducts.{drawn, mini_product, side_by_side, statements_left}
pub use Rattle.sm_product.specs.Paths.{IsFilled, after_move, first_taken, is_straight, move_before, moves_before}
pub use Rattle.sm_product.specs.ProductContexts.{IsContextReady}
pub use Rattle.sm_product.specs.ProductPlans.{full_choice, plan_of, site_count, templates}
pub use Rattle.sm_product.specs.Products.{branched, filled, forked, product, product_if, product_while, sketch_of, where_any}
pub use Rattle.sm_product.specs.Rooms.{IsRoom, IsTaken, TellAllBeyond, TellsBeyond, all_below}
pub use Rattle.sm_product.specs.Sizes.{facts_in, goals_in, is_small, is_within}
pub use Rattle.sm_product.specs.declared.rooms.Room.{Room}
