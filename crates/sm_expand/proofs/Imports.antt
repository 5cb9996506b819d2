-- What proofs of this crate name of definitions and of the lemmas of other crates.
pub use Rattle.std.proofs.Common.{Bool, Err, List, None, Ok, Option, Result, Some, [], ap, append-nil, append_assoc, arith, false, get_or, if◌then◌else◌, length, map, max, nat_le, nat_lt, refl, reverse, rules, slice_get, subst, suc, sym, take, true, zero, ℕ, ◌&&◌, ◌*◌, ◌++◌, ◌+◌, ◌-◌, ◌<◌, ◌==◌, ◌∙◌, ◌∷◌, ◌≡◌, ◌≤◌}
pub use Rattle.std.proofs.lemmas.Bool.{eq-eqb, le-leb, le-ltb, lt-leb, lt-ltb, ltb-false, ltb-true, ne_eqb}
pub use Rattle.std.proofs.lemmas.List.{length-append, length-map, length-take-le, map-append, map_more, reverse-append, take-append-le, take-map, take-take, take_all}
pub use Rattle.std.proofs.lemmas.Result.{IfErr-weaker, IfOk-weaker, on_ok_weaker}
pub use Rattle.std.specs.Prelude.{Box, IfErr, IsErrAnd, Vec, option_map}
pub use Rattle.std.specs.declared.alloc.Global.{Global}
pub use Rattle.sm_syntax.specs.claim.ConflictFree.{Copy, Task, copy_of, program_of}
pub use Rattle.sm_syntax.specs.declared.tree.Sort.{Sort}
pub use Rattle.sm_syntax.specs.text.Parts.{by_copy, sort_of, sorted_outputs}
pub use Rattle.sm_syntax.specs.text.Sorts.{Sorts}
pub use Rattle.sm_term.specs.Assertions.{Assertion}
pub use Rattle.sm_term.specs.Formulas.{IsFormulaWithin, NumberedFormula, assertion_in, numbered}
pub use Rattle.sm_term.specs.Sorted.{IsFormSorted}
pub use Rattle.sm_term.specs.TableLaws.{ExtendsTable}
pub use Rattle.sm_term.specs.Tables.{TableValue, sorts_in, trees_in}
pub use Rattle.sm_term.specs.Terms.{Tree}
pub use Rattle.sm_term.specs.declared.formula.Formula.{Formula}
pub use Rattle.sm_plan.proofs.TablesWiden.{forms_ready, widens_cut, widens_same, widens_twice}
pub use Rattle.sm_plan.specs.Masks.{set_of}
pub use Rattle.sm_plan.specs.Nodes.{Node, is_branching, is_end, opened_by, rule_of}
pub use Rattle.sm_plan.specs.Plans.{Deep, Fault, Wrong, branches, count, due, expand, expand_all, joined, most_branches, obligations, opened, size, sizes}
pub use Rattle.sm_plan.specs.ReadyStates.{AreFormsReady, AreSuccessorsReady, IsFormReady}
pub use Rattle.sm_plan.specs.States.{State, start_of, start_state}
pub use Rattle.sm_plan.specs.Views.{forms_in, opened_in, state_in, successor_in}
pub use Rattle.sm_plan.specs.declared.opening.Opened.{Opened}
pub use Rattle.sm_plan.specs.declared.opening.Successor.{Successor}
pub use Rattle.sm_plan.specs.declared.state.Formulas.{Formulas}
pub use Rattle.sm_expand.specs.Cursors.{IsRowOf, numbered_at}
pub use Rattle.sm_expand.specs.NumberedPlans.{Abs, ArePlansReady, At, Block, Dead, Ends, Fork, IsKeepReady, IsPlanReady, Loop, More, NumberedNode, NumberedPlan, NumberedPlans, Over, Step, below, head, list_of, node_over, plan_over, plans_before, plans_over}
pub use Rattle.sm_expand.specs.PlacedStates.{ArePlacedReady, PlacedState, placed_with}
pub use Rattle.sm_expand.specs.Views.{AreDuesReady, FaultTells, Plan, Plans, Simple, dues_in, fold-Plans, fold_out-Plan, fold_out-Plans, last_layer, numbered_last, numbered_plan, out-Plans, plan_in, plan_layer, plans_layer, simple_node, straight_before}
pub use Rattle.sm_expand.specs.Walks.{AreNested, AreWaitingReady, IsReadyWith, IsWaitingReady, asked, expand_pairs, facts_of, outcome, size_of, sizes_of, waits_as, waits_with}
pub use Rattle.sm_expand.specs.declared.fault.PlanFault.{PlanFault}
pub use Rattle.sm_expand.specs.declared.plan.Last.{Last, fold-roll-Last}
pub use Rattle.sm_expand.specs.declared.walk.Waiting.{Waiting}
