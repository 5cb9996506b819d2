-- What proofs of this crate name of definitions and of the lemmas of other crates.
pub use Rattle.std.proofs.Common.{Bool, Bor, Err, List, None, Ok, Option, Result, Some, [], ap, append-nil, append_assoc, arith, drop, eqb-true, false, get_or, if◌then◌else◌, inl, inr, is_some, length, map, nat_le, option_map, refl, reverse, slice_get, subst, suc, sym, take, true, zero, ℕ, ◌*◌, ◌++◌, ◌+◌, ◌<◌, ◌∙◌, ◌∷◌, ◌≡◌, ◌≤◌, ◌⊎◌}
pub use Rattle.std.proofs.lemmas.Bool.{OnTrue_at, OnTrue_from}
pub use Rattle.std.proofs.lemmas.List.{drop_all, drop_more, length-append, length-map, map-append, nil_from_length, reverse-append, take_all, take_more}
pub use Rattle.std.proofs.lemmas.Option.{same_Some}
pub use Rattle.std.specs.Prelude.{Box, Vec}
pub use Rattle.std.specs.declared.alloc.Global.{Global}
pub use Rattle.sm_syntax.specs.claim.ConflictFree.{A, B, Copy, M, O, copy_of}
pub use Rattle.sm_syntax.specs.text.Parts.{Parts, sort_of, sorted_outputs, task_of}
pub use Rattle.sm_syntax.specs.text.Sorts.{Sorts}
pub use Rattle.sm_syntax.specs.trees.Copies.{of_copy}
pub use Rattle.sm_text.specs.Tasks.{parts_of}
pub use Rattle.sm_term.specs.Assertions.{Assertion, negate}
pub use Rattle.sm_term.specs.Formulas.{And, Eq, IsFormulaWithin, Le, Lt, Ne, No, NumberedFormula, Or, Yes, assertion_in, contrary, numbered}
pub use Rattle.sm_term.specs.Sorted.{IsDeclaredIn, IsFormSorted, IsSorted, IsStoreSorted, tree_sort}
pub use Rattle.sm_term.specs.TableLaws.{AreTreesSorted, ExtendsTable}
pub use Rattle.sm_term.specs.Tables.{TableValue, codes_in, sorts_in, tree_at, tree_in, trees_in}
pub use Rattle.sm_term.specs.Terms.{Start, Tree}
pub use Rattle.sm_term.specs.declared.formula.Formula.{Formula}
pub use Rattle.sm_term.specs.declared.term.TermId.{TermId}
pub use Rattle.sm_plan.proofs.TablesWiden.{cut_back, longer, state_ready, state_stays, tree_stays, widens_cut, widens_same, widens_twice}
pub use Rattle.sm_plan.specs.Nodes.{Node, opened_by}
pub use Rattle.sm_plan.specs.Plans.{all_nodes, count, nodes_of, obligations, size, sizes}
pub use Rattle.sm_plan.specs.ReadyStates.{AreFormsReady, AreSuccessorsReady, IsFormReady, IsStoreReady}
pub use Rattle.sm_plan.specs.States.{State, start_state}
pub use Rattle.sm_plan.specs.Views.{forms_in, node_in, opened_in, state_in, successor_in}
pub use Rattle.sm_plan.specs.declared.node.NodeRow.{NodeRow}
pub use Rattle.sm_plan.specs.declared.opening.Opened.{Opened}
pub use Rattle.sm_plan.specs.declared.opening.Successor.{Successor}
pub use Rattle.sm_expand.proofs.PlacedLemmas.{opened_fewer, opened_ready, plans_of, popped}
pub use Rattle.sm_expand.proofs.PlansWiden.{dues_ready, dues_stay, plan_ready, plan_stays, plans_ready, plans_stay}
pub use Rattle.sm_expand.specs.Cursors.{numbered_at}
pub use Rattle.sm_expand.specs.NumberedPlans.{ArePlansReady, IsKeepReady, IsPlanReady, NumberedPlan, NumberedPlans, below, head, list_of, node_over, plan_over, plans_before, plans_over}
pub use Rattle.sm_expand.specs.PlacedStates.{ArePlacedReady, IsPlacedReady, placed_with, weight}
pub use Rattle.sm_expand.specs.Views.{AreDuesReady, due_in, dues_in, numbered_last, numbered_plan, plan_in, simple_node, straight_before}
pub use Rattle.sm_expand.specs.declared.cursor.Cursor.{Cursor}
pub use Rattle.sm_expand.specs.declared.placed.PlacedState.{PlacedState}
pub use Rattle.sm_theory.specs.Facts.{BranchFact, Formal, as_facts}
pub use Rattle.sm_theory.specs.Views.{AllStand, FactStands, IsLineWithin, line_in, numbered_line}
pub use Rattle.sm_theory.specs.declared.line.CertLine.{CertLine}
pub use Rattle.sm_cert.specs.Certificates.{Certificate, Closed, Split}
pub use Rattle.sm_cert.specs.NamedTerms.{EachTerm}
pub use Rattle.sm_cert.specs.Views.{AreLinesWithin, certificate_in, lines_before, lines_of}
pub use Rattle.sm_cert.specs.declared.tree.CertTree.{CertTree}
pub use Rattle.sm_write.specs.Nameable.{EachInState, EachInStates, EachSide, IsClosed, Nameable, PassesTest}
pub use Rattle.sm_write.specs.PlanStates.{plan_states, plans_states, states_opened}
pub use Rattle.sm_write.specs.Writable.{AreKeptNameable, AreShort, AreShown, EachKept, Goal, IsShort, IsWritable, all_goals, denied, goals_of, states_until}
pub use Rattle.sm_audit.specs.Fit.{AreGoalsFit, IsGoalFit, IsTreeFit}
pub use Rattle.sm_audit.specs.Known.{AreLinesFit, AreRowsKnown, IsFormKnown, IsLineFit, IsLineKnown, IsRowKnown}
pub use Rattle.sm_audit.specs.Since.{AreNamedFrom, AreSince, IsKnownBy, IsMadeOf, IsNamedFrom, IsPut, entry_of}
pub use Rattle.sm_audit.specs.Walks.{AllStandFor, IsUnderway, StandsFor, Waits, each_waits, nodes_left, nodes_with, states_left}
