-- What proofs of this crate name of definitions and of the lemmas of other crates.
pub use Rattle.std.proofs.Common.{Bool, Err, IfOk, List, None, Ok, Option, Result, Some, [], ap, append_assoc, arith, drop, false, if◌then◌else◌, inl, inr, length, length-append, lit<, map, option_map, refl, reverse, subst, suc, sym, true, zero, ℕ, ◌%◌, ◌++◌, ◌+◌, ◌-◌, ◌/◌, ◌<◌, ◌==◌, ◌^◌, ◌∙◌, ◌∷◌, ◌≡◌, ◌≤◌, ◌⊎◌}
pub use Rattle.sm_syntax.proofs.Refusals.{each_none, has_sort, neither_refuses, none_of_lists}
pub use Rattle.sm_syntax.specs.claim.ConflictFree.{A, B, Copy, M, O, program_of}
pub use Rattle.sm_syntax.specs.claim.Fill.{Fillings, fill, filling}
pub use Rattle.sm_syntax.specs.claim.Syntax.{Assign, Code, Condition, End, Hole, If, Skip, While, Write, append}
pub use Rattle.sm_syntax.specs.declared.copies.CopyName.{CopyName}
pub use Rattle.sm_syntax.specs.declared.tree.Sort.{Sort}
pub use Rattle.sm_syntax.specs.text.Conditions.{HoleInFilling, ListOf, Refusal, at_hole, double_hole, double_name, first_output_fault, first_outside, holes_inside, holes_of, is_in, missing_filling, output_refusal, sort_refusal, unknown_hole}
pub use Rattle.sm_syntax.specs.text.Parts.{Parts, sort_of, sorted_outputs, task_of}
pub use Rattle.sm_syntax.specs.text.Sorts.{IsAsDeclared, IsWellSorted, Sorts}
pub use Rattle.sm_syntax.specs.trees.Copies.{copy_named}
pub use Rattle.sm_syntax.specs.trees.Views.{code_of, condition_of}
pub use Rattle.sm_text.specs.Tasks.{ProgramParts, lists_of, parts_of, program_parts}
pub use Rattle.sm_text.specs.declared.task.Task.{Task}
pub use Rattle.sm_moves.specs.CodeShapes.{has_hole}
pub use Rattle.sm_suggest.specs.Combinations.{choices, chosen, combination, combination_count, copy_of_digit, hole_count}
pub use Rattle.sm_suggest.specs.First.{MayAnswer}
pub use Rattle.sm_suggest.specs.Fit.{IsFit}
pub use Rattle.sm_suggest.specs.Laws.{CombinationsAreFit, SpelledAreFit}
