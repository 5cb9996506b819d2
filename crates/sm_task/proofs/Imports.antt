-- What proofs of this crate name of definitions and of the lemmas of other crates.
pub use Rattle.std.proofs.Common.{Err, List, None, Option, Result, Some, [], add-one, ap, arith, drop, drop-cons, inl, inr, map, nat_eq, option_map, refl, suc, sym, take, zero, ℕ, ◌++◌, ◌∙◌, ◌∷◌, ◌≡◌, ◌≤◌}
pub use Rattle.std.proofs.lemmas.Grind.{common_steps}
pub use Rattle.std.specs.List.{flat_map}
pub use Rattle.sm_syntax.specs.claim.ConflictFree.{A, B, Copy, M, O, program_of}
pub use Rattle.sm_syntax.specs.claim.Fill.{fill, filling}
pub use Rattle.sm_syntax.specs.claim.Syntax.{Code, End, append}
pub use Rattle.sm_syntax.specs.declared.program.Filling.{Filling}
pub use Rattle.sm_syntax.specs.text.Conditions.{ListOf, Refusal, filled_holes, first_outside, first_refusal, first_repeated, holes_inside, holes_of, is_in}
pub use Rattle.sm_syntax.specs.text.Parts.{Parts, task_of}
pub use Rattle.sm_syntax.specs.trees.Programs.{fillings_of}
pub use Rattle.sm_syntax.specs.trees.Views.{code_of, sequence, statement_of}
pub use Rattle.sm_text.specs.parsing.Places.{AreTasks, IsFirstFault, IsRefusal}
pub use Rattle.sm_text.specs.parsing.Places.Sources.{whole_text}
pub use Rattle.sm_task.specs.Errors.{IsReadAs, IsRefusedAs, IsRefusedBy, IsRefusedWith, TaskError, error_of, from_text, section_number}
