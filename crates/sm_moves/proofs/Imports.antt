-- What proofs of this crate name of definitions and of the lemmas of other crates.
pub use Rattle.std.proofs.Common.{Bool, IsTrue, List, None, Option, Some, [], ap, arith, bit_and, cond, drop, false, get_or, if◌then◌else◌, length, map, not, refl, subst, suc, sym, take, true, vec_len, zero, ℕ, ◌&&◌, ◌++◌, ◌+◌, ◌-◌, ◌<◌, ◌==◌, ◌||◌, ◌↔◌, ◌∙◌, ◌∷◌, ◌≡◌, ◌≤◌}
pub use Rattle.std.proofs.lemmas.Bool.{and_parts, or_parts}
pub use Rattle.std.proofs.lemmas.Option.{same_Some}
pub use Rattle.std.specs.List.{flat_map, list_all, list_any}
pub use Rattle.std.specs.Prelude.{find}
pub use Rattle.sm_lemmas.proofs.Tests.{or_assoc, or_false, same_tests}
pub use Rattle.sm_syntax.proofs.Appends.{append-End, append_assoc, fill-append}
pub use Rattle.sm_syntax.proofs.Blocks.{block_is, sequence-drop, sequence-drop-end, statement_is}
pub use Rattle.sm_syntax.proofs.Statements.{statement_of-Assign, statement_of-Hole, statement_of-If, statement_of-Skip, statement_of-Store, statement_of-While}
pub use Rattle.sm_syntax.specs.claim.ConflictFree.{A, B, Copy, M, O}
pub use Rattle.sm_syntax.specs.claim.Fill.{Fillings, fill, filling}
pub use Rattle.sm_syntax.specs.claim.Syntax.{Assign, Code, End, Hole, If, Skip, While, Write, append}
pub use Rattle.sm_syntax.specs.declared.tree.Block.{Block}
pub use Rattle.sm_syntax.specs.declared.tree.Stmt.{Stmt}
pub use Rattle.sm_syntax.specs.trees.Copies.{copy_named, of_copy}
pub use Rattle.sm_syntax.specs.trees.Programs.{fillings_of}
pub use Rattle.sm_syntax.specs.trees.Views.{code_of, statement_of}
pub use Rattle.sm_term.specs.SameCodeLaws.{code_itself, same_code_is}
pub use Rattle.sm_term.specs.SameTerms.{is_copy, same_code}
pub use Rattle.sm_plan.proofs.CopiesLemmas.{each_true, has_that, inhabited_by}
pub use Rattle.sm_plan.proofs.RestsLemmas.{after_within, front_within, put_first, stands}
pub use Rattle.sm_plan.specs.Copies.{Copies, all_subsets, choices, copies, each, has, is_inhabited, no_copies, subsets, with_copy}
pub use Rattle.sm_plan.specs.Masks.{bit_of, set_of}
pub use Rattle.sm_plan.specs.Statements.{Statement, by_first, front, is_long, is_loop, is_over, loop_body, put_before, rest_after}
pub use Rattle.sm_plan.specs.Views.{code_before, rest_code}
pub use Rattle.sm_moves.specs.CodeShapes.{are_same, by_first_block, by_second_block, has_fork, has_hole, is_fork, is_simple, own_statements, statements_in}
pub use Rattle.sm_moves.specs.Moves.{Done, Forks, Loops, Move, Steps, Summaries, are_alike, first_in, is_shared, left_in, move_of, move_or, moved_on, next_move}
