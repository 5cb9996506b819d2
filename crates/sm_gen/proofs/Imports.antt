-- What proofs of this crate name of definitions and of the lemmas of other crates.
pub use Rattle.std.proofs.Common.{Bool, List, None, Option, Some, [], ap, ap₂, arith, cond, eq-eqb, false, if◌then◌else◌, length, lit<, map, nat_lt, not, pos, refl, slice_get, subst, suc, sym, take, true, unwrap_or, zero, ℕ, ◌%◌, ◌&&◌, ◌*◌, ◌++◌, ◌+◌, ◌-◌, ◌/◌, ◌<◌, ◌==◌, ◌^◌, ◌||◌, ◌∙◌, ◌∷◌, ◌≡◌, ◌≤◌}
pub use Rattle.std.proofs.lemmas.Bool.Decides.{nat_tests}
pub use Rattle.std.proofs.lemmas.Fmt.{decimal_injective, decimal_is_IsNumeral, length-decimal-le}
pub use Rattle.std.proofs.lemmas.List.FromFn.{length-map-range_with_len, map-range_with_len_more}
pub use Rattle.std.specs.Fmt.{decimal}
pub use Rattle.std.specs.List.{AllByRecursion, list_all, position_or_len, range_with_len}
pub use Rattle.std.specs.Str.{bytes_eq}
pub use Rattle.sm_syntax.proofs.Numbering.{bytes_eq-refl, with_text-among, with_text-new}
pub use Rattle.sm_syntax.specs.claim.ConflictFree.{A, B, Copy, M, O}
pub use Rattle.sm_syntax.specs.claim.Syntax.{Assign, Code, End, Expression, Hole, append}
pub use Rattle.sm_syntax.specs.declared.tree.Name.{Name}
pub use Rattle.sm_syntax.specs.declared.tree.Sort.{Sort}
pub use Rattle.sm_syntax.specs.declared.tree.Sort.TheVariants.{Arr, Num}
pub use Rattle.sm_syntax.specs.text.Parts.{Parts, sort_of}
pub use Rattle.sm_syntax.specs.text.Symbols.{is_among, with_text}
pub use Rattle.sm_syntax.specs.text.TaskGrammar.{IsTask, with_sort}
pub use Rattle.sm_syntax.specs.trees.Views.{code_of, sequence, statement_of}
pub use Rattle.sm_gen.specs.Drawing.{drawn, drawn_after, edit_count, edit_of, editor_of, edits, has_edits}
pub use Rattle.sm_gen.specs.Generating.{counted, filling_of, generated, holes, name_of, value_of}
pub use Rattle.sm_gen.specs.declared.drawing.Edit.{Edit}
