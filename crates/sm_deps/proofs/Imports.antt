-- What proofs of this crate name of definitions and of the lemmas of other crates.
pub use Rattle.std.proofs.Common.{Bool, IfOk, IsTrue, List, None, OnOk, Option, Result, Some, [], ap, arith, cond, drop, false, get_or, if◌then◌else◌, inl, inr, is_some, length, length-append, map, max, nat_eq, nat_lt, not, refl, slice_get, subst, suc, sym, true, zero, ℕ, ℤ, ⊎_elim, ◌&&◌, ◌*◌, ◌++◌, ◌+◌, ◌-◌, ◌<◌, ◌==◌, ◌^◌, ◌||◌, ◌↔◌, ◌∙◌, ◌∷◌, ◌≡◌, ◌≢◌, ◌≤◌, ◌⊎◌}
pub use Rattle.std.proofs.Math.Path.{fun_ext}
pub use Rattle.std.proofs.lemmas.Bool.{OnFalse_at, and_from, and_parts, cases_Bool, cases_eq, eq-eqb, eqb-false, eqb-true, ne_eqb, not-true, not_from_false, or_cases, or_left, or_right}
pub use Rattle.std.proofs.lemmas.Bool.Decides.{nat_tests}
pub use Rattle.std.proofs.lemmas.Cmp.{nat_cmp_total, nat_eq_equiv}
pub use Rattle.std.proofs.lemmas.List.Folds.{list_any-append}
pub use Rattle.std.proofs.lemmas.Map.Keys.{IsDistinct-from_sorted, IsDistinct-push, IsStrictlyIncreasing-from_sorted, sorted_from_strictly_increasing}
pub use Rattle.std.proofs.lemmas.Result.{IfOk-weaker, on_ok_weaker}
pub use Rattle.std.specs.BTreeMap.{is_at}
pub use Rattle.std.specs.BTreeSet.{BTreeSet, InsertsAll, IsOrdered, Updates, UpdatesBy, contains, contains_by}
pub use Rattle.std.specs.List.{IsDistinct, each_same, filter, list_any, range_with_len}
pub use Rattle.std.specs.List.Sorted.{IsStrictlyIncreasing}
pub use Rattle.std.specs.Ordering.{eq_by_cmp, nat_cmp}
pub use Rattle.sm_lemmas.proofs.Tests.{itself, or_assoc, or_false, same_tests}
pub use Rattle.sm_syntax.proofs.Blocks.{sequence-drop, sequence-drop-end, statement_is}
pub use Rattle.sm_syntax.proofs.Statements.{statement_of-Assign, statement_of-Hole, statement_of-If, statement_of-Skip, statement_of-Store, statement_of-While}
pub use Rattle.sm_syntax.specs.Assigns.{assigns}
pub use Rattle.sm_syntax.specs.claim.Syntax.{Code, Compare, Condition, End, Expression, Hole, If, Lit, Minus, Neg, No, Not, Plus, Read, Skip, Times, Var, While, Write, Yes, append}
pub use Rattle.sm_syntax.specs.declared.program.Outputs.{Outputs}
pub use Rattle.sm_syntax.specs.declared.tree.Block.{Block, size-Block}
pub use Rattle.sm_syntax.specs.declared.tree.Cond.{Cond}
pub use Rattle.sm_syntax.specs.declared.tree.Expr.{Add, Expr, Mul, Sub}
pub use Rattle.sm_syntax.specs.declared.tree.Name.{Name}
pub use Rattle.sm_syntax.specs.declared.tree.Sort.{Sort}
pub use Rattle.sm_syntax.specs.declared.tree.Sort.TheVariants.{Arr, Num}
pub use Rattle.sm_syntax.specs.declared.tree.Stmt.{Stmt, size-Stmt}
pub use Rattle.sm_syntax.specs.text.Conditions.{is_in}
pub use Rattle.sm_syntax.specs.text.Sorts.{IsWellSorted, IsWellSortedCondition, IsWellSortedExpression, Sorts}
pub use Rattle.sm_syntax.specs.trees.Programs.{outputs_of}
pub use Rattle.sm_syntax.specs.trees.Views.{code_of, condition_of, expression_of, sequence, statement_of}
pub use Rattle.sm_deps.specs.Inputs.{greatest, grown, inputs, needed}
pub use Rattle.sm_deps.specs.Loops.{GoesOver, HasNeeds, IsReady, IsWithin, KeepsSet, LoopsCounted, Resumes, Settles, loops_in}
pub use Rattle.sm_deps.specs.Members.{Below, either, members, only}
pub use Rattle.sm_deps.specs.Names.{code_names, mentions, tests}
pub use Rattle.sm_deps.specs.Needs.{Least, NamePredicate, Needs, Picked, Within}
pub use Rattle.sm_deps.specs.declared.loops.Loops.{Loops}
