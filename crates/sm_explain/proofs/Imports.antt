-- What proofs of this crate name of definitions and of the lemmas of other crates.
pub use Rattle.std.proofs.Common.{Bool, List, None, Option, Some, [], ap, append-nil, append_assoc, arith, codes, drop, drop_of_length-le, false, get_or, if◌then◌else◌, inl, inr, length, map, not, of_z, pos, refl, rules, subst, suc, sym, take, take_all, to_z, true, zero, ℕ, ℤ, ⊎_elim, ◌&&◌, ◌++◌, ◌+◌, ◌<◌, ◌==◌, ◌↔◌, ◌∙◌, ◌∷◌, ◌≡◌, ◌≢◌, ◌≤◌, ◌⊎◌}
pub use Rattle.std.proofs.lemmas.Bool.Decides.{Decides-and, Decides-int_eq, Decides-like, Decides-not, not_from_Decides}
pub use Rattle.std.proofs.lemmas.Int.{ints, to_z-of_z}
pub use Rattle.std.proofs.lemmas.List.{drop_more, map-append, take_more}
pub use Rattle.std.specs.Int.{w128}
pub use Rattle.std.specs.List.{concat, filter}
pub use Rattle.std.specs.Option.{unwrap_or}
pub use Rattle.std.specs.Ordering.{int_eq}
pub use Rattle.std.specs.Prelude.{int_lt, slice_get, slice_index, ◌<ℤ◌, ◌≤ℤ◌}
pub use Rattle.sm_syntax.specs.claim.ConflictFree.{A, B, Copy, M, O, program_of}
pub use Rattle.sm_syntax.specs.claim.Keeps.{AddsNothing, Cell, Element, Keeps, KeepsChange, Scalar, content}
pub use Rattle.sm_syntax.specs.claim.Stores.{Store, Value, array, number}
pub use Rattle.sm_syntax.specs.claim.Syntax.{Code}
pub use Rattle.sm_syntax.specs.declared.tree.Name.{Name}
pub use Rattle.sm_syntax.specs.declared.tree.Sort.{Sort}
pub use Rattle.sm_syntax.specs.declared.tree.Sort.TheVariants.{Num}
pub use Rattle.sm_syntax.specs.text.Parts.{sort_of, task_of}
pub use Rattle.sm_syntax.specs.text.Sorts.{Sorts}
pub use Rattle.sm_task.specs.Tasks.{parts_of}
pub use Rattle.sm_eval.specs.Cells.{IsAscending, index_at, listed}
pub use Rattle.sm_eval.specs.StoredValues.{held, meaning, sort, sorts_of, stored_value_of}
pub use Rattle.sm_replay.specs.Runs.{Halts, HaveSort, code_in, end_in}
pub use Rattle.sm_explain.specs.Indices.{IsOf, Rise}
pub use Rattle.sm_explain.specs.Merging.{AreMerging, Grows, first, firsts, lesser, past}
pub use Rattle.sm_explain.specs.Places.{EndsLine, HasNoFeed, IsPlace, StartsLine, blank_under, line_feeds}
pub use Rattle.sm_explain.specs.Rows.{adds_change, agree, cell_rows, labelled, loses_change, rows, said_if, sentences, values_text, words_of_a, words_of_b, words_of_candidate}
pub use Rattle.sm_explain.specs.Starts.{AreStartLines, AreValueLines, element_lines, numbered, start_line}
pub use Rattle.sm_explain.specs.Tables.{AreElementRows, AreOutputRows, AreRows, DifferAt, element_rows}
