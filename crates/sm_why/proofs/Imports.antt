-- What proofs of this crate name of definitions and of the lemmas of other crates.
pub use Rattle.std.proofs.Common.{Bool, Err, IfOk, List, None, Ok, Option, Result, Some, [], ap, arith, false, if◌then◌else◌, inl, inr, length, map, nat_le, not, option_map, refl, subst, suc, sym, true, zero, ℕ, ⊎_elim, ◌%◌, ◌&&◌, ◌++◌, ◌+◌, ◌/◌, ◌<◌, ◌==◌, ◌||◌, ◌∙◌, ◌∷◌, ◌≡◌, ◌≤◌}
pub use Rattle.std.proofs.lemmas.Bool.{and_parts, cases_eq}
pub use Rattle.std.proofs.lemmas.Option.{get_or_from_slice_get, same_Some, slice_get-map, slice_get_within}
pub use Rattle.std.specs.List.{AllByRecursion, flat_map}
pub use Rattle.std.specs.Prelude.{IsTrue, slice_get, ◌↔◌}
pub use Rattle.sm_syntax.specs.claim.ConflictFree.{Copy, Task, copy_of, program_of}
pub use Rattle.sm_syntax.specs.claim.Stores.{Store}
pub use Rattle.sm_syntax.specs.text.Parts.{sort_of, task_of}
pub use Rattle.sm_task.specs.Tasks.{parts_of}
pub use Rattle.sm_replay.specs.Trials.{trial}
pub use Rattle.sm_why.specs.Sites.{BeginsAt, begins_hole, is_question}
pub use Rattle.sm_why.specs.Trials.{AreCounted, EndsFrom}
