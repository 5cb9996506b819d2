-- What proofs of this crate name of definitions and of the lemmas of other crates.
pub use Rattle.std.proofs.Common.{Bool, Equal, Err, Greater, IfErr, IfOk, Less, List, None, Ok, Option, Ordering, Result, Some, [], ap, arith, drop, false, get_or, if◌then◌else◌, inl, inr, length, map, of_z, pos, refl, rules, set, subst, suc, sym, take, to_z, true, zero, ℕ, ℤ, ◌*◌, ◌++◌, ◌+◌, ◌-◌, ◌<◌, ◌∙◌, ◌∷◌, ◌≡◌, ◌≢◌, ◌≤◌, ◌⊎◌}
pub use Rattle.std.proofs.Math.Path.{fun_ext}
pub use Rattle.std.proofs.lemmas.Bool.{cases_eq, cases_lt}
pub use Rattle.std.proofs.lemmas.Bool.Decides.{Decides-int_eq}
pub use Rattle.std.proofs.lemmas.Int.{ints, to_z-of_z}
pub use Rattle.std.proofs.lemmas.List.{append_assoc, drop-drop, drop-set-add, drop_at, get_or-set_other, get_or-set_same, get_or_default, length-drop, length-set, length-take, set_at}
pub use Rattle.std.proofs.lemmas.List.Sorted.{IsNonDecreasingBy-from_default, answers_always}
pub use Rattle.std.specs.Int.{w128}
pub use Rattle.std.specs.List.{insert, remove}
pub use Rattle.std.specs.Ordering.{MatchOrdering, int_cmp, int_eq, ordering_index}
pub use Rattle.std.specs.Prelude.{◌<ℤ◌}
pub use Rattle.sm_syntax.specs.claim.Meaning.{and_then, run, truth_of, turns, value_of, written}
pub use Rattle.sm_syntax.specs.claim.Stores.{Value, number, put, with_element}
pub use Rattle.sm_syntax.specs.claim.Syntax.{And, Assign, Code, Compare, Condition, End, Expression, Hole, If, Lit, Minus, Neg, No, Not, Or, Plus, Read, Skip, Times, Var, While, Write, Yes}
pub use Rattle.sm_syntax.specs.declared.tree.Sort.{Sort}
pub use Rattle.sm_syntax.specs.declared.tree.Sort.TheVariants.{Arr, Num}
pub use Rattle.sm_syntax.specs.declared.tree.Stmt.{Stmt, size-Stmt}
pub use Rattle.sm_syntax.specs.text.Parts.{sort_of}
pub use Rattle.sm_syntax.specs.text.Sorts.{IsWellSorted, IsWellSortedCondition, IsWellSortedExpression, Sorts}
pub use Rattle.sm_syntax.specs.trees.Views.{code_of, condition_of, expression_of, sequence, statement_of}
pub use Rattle.sm_eval.specs.CellPlaces.{IsAt, IsGapFor}
pub use Rattle.sm_eval.specs.Cells.{AreCells, IsAscending, cell_number_at, index_at, listed}
pub use Rattle.sm_eval.specs.Events.{EvalError, Memory, OutOfTurns, after, answer, before, condition_event, event, expression_event, turns_event}
pub use Rattle.sm_eval.specs.StoredValues.{Absent, Array, StoredValue, held, meaning, sort, sorts, sorts_of, stored_value_of, values}
