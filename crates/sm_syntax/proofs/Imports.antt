-- What proofs of this crate name of definitions and of the lemmas of other crates.
pub use Rattle.std.proofs.Common.{Bool, Bor, Err, Global, List, None, Option, Some, String, [], add-one, ap, append_assoc, arith, cond, drop, drop-cons, eq-eqb, false, get_or, if◌then◌else◌, inl, inr, is_some, length, lit<, map, max, min, nat_eq, not, one-add, option_map, refl, rules, slice_get, slice_index_or, subst, suc, sym, take, true, true≢false, unwrap_or, zero, ℕ, ℤ, ⊎_elim, ◌*◌, ◌++◌, ◌+◌, ◌-◌, ◌<◌, ◌==◌, ◌^◌, ◌||◌, ◌↔◌, ◌∙◌, ◌∷◌, ◌≡◌, ◌≢◌, ◌≤◌, ◌⊎◌}
pub use Rattle.std.proofs.Math.Path.{fun_ext}
pub use Rattle.std.proofs.lemmas.Bool.{cases_Bool, cases_eq, ne_eqb, or_parts}
pub use Rattle.std.proofs.lemmas.Bool.Decides.{nat_tests, not_from_Decides}
pub use Rattle.std.proofs.lemmas.Grind.{common_steps}
pub use Rattle.std.proofs.lemmas.List.{append-nil, get_or-map, length-map, length_push, map-append, map_more, take-map}
pub use Rattle.std.specs.HashMap.{get}
pub use Rattle.std.specs.List.{AllByRecursion, IsDistinct, list_any, position, position_or_len}
pub use Rattle.std.specs.Option.{option_copied, option_or}
pub use Rattle.std.specs.Str.{bytes_eq}
pub use Rattle.sm_syntax.specs.claim.Keeps.{AddsNothing, Keeps, KeepsChange}
pub use Rattle.sm_syntax.specs.claim.Meaning.{and_then, run, truth_of, turns, value_of, written}
pub use Rattle.sm_syntax.specs.claim.Stores.{Array, Store, Value, array, number, put, with_element}
pub use Rattle.sm_syntax.specs.claim.Syntax.{And, Assign, Code, Compare, Condition, End, Expression, Hole, If, Lit, Minus, Neg, No, Not, Or, Plus, Read, Skip, Times, Var, While, Write, Yes, append}
pub use Rattle.sm_syntax.specs.declared.tree.Expr.{Expr, size-Expr}
pub use Rattle.sm_syntax.specs.declared.tree.Name.{Name}
pub use Rattle.sm_syntax.specs.text.Conditions.{DoubleName, Refusal, TooDeep, TooMany, WrongSort, code_depth, code_nodes, first_of_all, first_of_lists, first_output_fault, first_repeated, first_sort_fault, is_in, output_refusal, over, size_fault, sort_refusal}
pub use Rattle.sm_syntax.specs.text.Parts.{sort_of}
pub use Rattle.sm_syntax.specs.text.Sorts.{IsAsDeclared, Sorts}
pub use Rattle.sm_syntax.specs.text.Symbols.{is_among, with_text}
pub use Rattle.sm_syntax.specs.text.Uses.{EachName, EachTested, EachUsed, names_in, names_tested, names_used}
pub use Rattle.sm_syntax.specs.trees.Faults.{Reports}
pub use Rattle.sm_syntax.specs.trees.Programs.{declared_of, outputs_of}
pub use Rattle.sm_syntax.specs.trees.Views.{Block, Cond, Stmt, Stmt-F, block_layer, code_of, condition_of, expression_of, fold-roll-Stmt, fold_out-Block, fold_out-Stmt, rolls-Assign, rolls-Hole, rolls-If, rolls-Skip, rolls-Store, rolls-While, sequence, statement_layer, statement_of}
