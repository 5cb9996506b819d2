-- What proofs of this crate name of definitions and of the lemmas of other crates.
pub use Rattle.std.proofs.Common.{BTreeMap, Bool, Bor, Equal, Err, Global, Greater, IsTrue, Less, List, None, Ok, Option, Ordering, Result, Some, String, [], add-one, ap, arith, cond, drop, drop-cons, false, get_or, if◌then◌else◌, inl, inr, is_eq, length, map, nat_lt, neg_ℤ, negsuc, not, of_z, option_and_then, option_map, pos, refl, rules, string_bytes, subst, suc, sym, to_z, true, true≢false, zero, zero-add, ℕ, ℤ, ⊎_elim, ◌&&◌, ◌++◌, ◌+◌, ◌<◌, ◌==◌, ◌^◌, ◌||◌, ◌↔◌, ◌∙◌, ◌∷◌, ◌≡◌, ◌≢◌, ◌≤◌, ◌⊎◌}
pub use Rattle.std.proofs.Math.Path.{fun_ext}
pub use Rattle.std.proofs.lemmas.Bool.{cases_eq, ne_eqb}
pub use Rattle.std.proofs.lemmas.Bool.Decides.{Decides-eqb, Decides-int_eq, Decides-ltb}
pub use Rattle.std.proofs.lemmas.Cmp.{nat_list_cmp_total, tied_itself}
pub use Rattle.std.proofs.lemmas.Int.{ints, to_z-of_z}
pub use Rattle.std.proofs.lemmas.List.{drop_all, get_or_default}
pub use Rattle.std.proofs.lemmas.List.Elements.{Contains-append_cases, Contains-append_left, Contains-append_right, Contains-get_or}
pub use Rattle.std.proofs.lemmas.Map.Text.{is_eq-slice_cmp}
pub use Rattle.std.proofs.lemmas.Option.{get_or_from_slice_get, none-some, slice_get-get_or, slice_get_within}
pub use Rattle.std.proofs.lemmas.Result.{IfOk-weaker, on_ok_weaker}
pub use Rattle.std.proofs.lemmas.Slice.Eq.{bytes_eq-Decides}
pub use Rattle.std.specs.Cmp.Lexicographic.{slice_cmp}
pub use Rattle.std.specs.Fmt.{decimal, signed_decimal}
pub use Rattle.std.specs.Int.{w128}
pub use Rattle.std.specs.List.{AllByRecursion, Contains, position, position_or_len, slice_index_or}
pub use Rattle.std.specs.List.Sorted.{IsPermutation, IsStrictlySortedBy}
pub use Rattle.std.specs.Map.{keys_of}
pub use Rattle.std.specs.Option.{IfNone, IfSome, option_or}
pub use Rattle.std.specs.Ordering.{int_eq, match_ordering, ordering_reverse}
pub use Rattle.std.specs.Prelude.{◌-ℤ◌, ◌<ℤ◌, ◌≤ℤ◌}
pub use Rattle.std.specs.Result.{IfErr, IfOk}
pub use Rattle.std.specs.Str.{IsUtf8, bytes_eq}
pub use Rattle.std.specs.String.{string_cmp}
pub use Rattle.serde_json.proofs.Views.{Entry, get_member-put, get_member-put_other, member_here, member_later, view-Object}
pub use Rattle.serde_json.specs.Data.{Data, Members, boolean, depth, float, member, members_depth, negative, no_members, null, object, string}
pub use Rattle.serde_json.specs.Find.{as_i64, as_number, as_object, as_str, as_u64, get, get_member}
pub use Rattle.serde_json.specs.Read.{max_depth, read}
pub use Rattle.serde_json.specs.View.{members_view, view}
pub use Rattle.serde_json.specs.Written.{compact_text, has_float, members_have_float}
pub use Rattle.sm_lemmas.proofs.Numbers.{no_minus, order}
pub use Rattle.sm_num.specs.Range.{exact, fits}
pub use Rattle.sm_syntax.specs.claim.ConflictFree.{A, B, ConflictFree, Copy, M, O, Task, copy_of, program_of}
pub use Rattle.sm_syntax.specs.claim.Keeps.{AddsNothing, Cell, Element, Keeps, KeepsChange, Scalar, content, variable}
pub use Rattle.sm_syntax.specs.claim.Meaning.{run, truth_of, value_of}
pub use Rattle.sm_syntax.specs.claim.Stores.{Array, Number, Store, zero_value}
pub use Rattle.sm_syntax.specs.claim.Syntax.{And, Code, Compare, Condition, Expression, Lit, Minus, Neg, No, Not, Or, Plus, Read, Times, Var, Yes}
pub use Rattle.sm_syntax.specs.declared.copies.PerCopy.{PerCopy}
pub use Rattle.sm_syntax.specs.declared.tree.Block.{Block}
pub use Rattle.sm_syntax.specs.declared.tree.Name.{Name}
pub use Rattle.sm_syntax.specs.declared.tree.Sort.{Sort}
pub use Rattle.sm_syntax.specs.declared.tree.Sort.TheVariants.{Arr, Num}
pub use Rattle.sm_syntax.specs.text.Parts.{Parts, sort_of, task_of}
pub use Rattle.sm_syntax.specs.text.Sorts.{IsWellSorted, Sorts}
pub use Rattle.sm_syntax.specs.text.Symbols.{is_among, names_of}
pub use Rattle.sm_syntax.specs.trees.Copies.{copy_named, of_copy}
pub use Rattle.sm_syntax.specs.trees.FirstBroken.{IsFirstBroken}
pub use Rattle.sm_syntax.specs.trees.Programs.{declared_of}
pub use Rattle.sm_syntax.specs.trees.Views.{condition_of}
pub use Rattle.sm_task.specs.Filling.{AreFilled}
pub use Rattle.sm_task.specs.Tasks.{parts_of}
pub use Rattle.sm_eval.specs.Cells.{AreCells, index_at, listed}
pub use Rattle.sm_eval.specs.Events.{answer, before, condition_event, event, expression_event, leaves}
pub use Rattle.sm_eval.specs.StoredValues.{held, meaning, sort, sorts_of, stored_value_of, with_cell}
pub use Rattle.sm_eval.specs.Zeros.{zero_of}
pub use Rattle.sm_eval.specs.declared.error.EvalError.{EvalError}
pub use Rattle.sm_eval.specs.declared.stored_value.StoredValue.{StoredValue}
pub use Rattle.sm_replay.specs.FirstBreak.{Finds, IsBreakOf, IsUpTo, NamesBreak, sorted_by}
pub use Rattle.sm_replay.specs.Input.{BadIndex, BadJson, BadValue, InputError, IsInput, IsJson, IsRefusedInput, NotObject, Reads, Texts, UnknownKey, array_fault, cell_given, cells_fault, declared_name, element, elements, given, input_fault, member_of, members_fault, missing, name_of, number_or_zero, reported, store_of, value_fault}
pub use Rattle.sm_replay.specs.InputText.{AreNamed, AreOrdered, AreWritten, AreWrittenCells, IsMemberOf, IsWrittenAs, StandsBefore, cell_at, nonzero_text, number_text}
pub use Rattle.sm_replay.specs.Judging.{IsWellSortedAssumption, Tells}
pub use Rattle.sm_replay.specs.Laws.{FirstViolationIsOne, LeastTrialIsOne, ReadingIsOne, SpelledNamesAreFound, VerdictIsOne, WrittenTextIsOne}
pub use Rattle.sm_replay.specs.Members.{AreInside, IsInside, IsInsideAt, Writes}
pub use Rattle.sm_replay.specs.Number.{json_number, number_of_text}
pub use Rattle.sm_replay.specs.Runs.{AreSorted, HaveSort, HaveSorts, code_in, end_in, stop_of}
pub use Rattle.sm_replay.specs.TrialJobs.{IsFirstThere, Shows, shown_of}
pub use Rattle.sm_replay.specs.Trials.{IsFirstViolation, Names, SomeTrialMeets, elements_below, trial, trials, value_in_trial}
pub use Rattle.sm_replay.specs.Updates.{GivesValue, Lists, Overrides}
pub use Rattle.sm_replay.specs.Verdicts.{Breaks, FailsAt, IsBelow, IsFirstBreak, IsUnmet, IsViolation, Judges, KeepsOutputs, ReplayError, Stops, cell_of}
pub use Rattle.sm_replay.specs.Violations.{AreEnds, IsMet, KeepsAt, Violates, assumed_event}
