-- What proofs of this crate name of definitions and of the lemmas of other crates.
pub use Rattle.std.proofs.Common.{Bool, Decides, Err, IfOk, IsErrOf, List, None, Ok, Option, Result, Some, Vec, [], add-one, ap, append-nil, append_assoc, arith, drop, false, get_or, if◌then◌else◌, inl, inr, is_some, length, length-drop, length-take, map, max, min, nat_le, nat_lt, not, refl, reverse, rules, subst, suc, sym, take, true, zero, zero-add, ℕ, ⊎_elim, ◌&&◌, ◌++◌, ◌+◌, ◌-◌, ◌<◌, ◌==◌, ◌^◌, ◌||◌, ◌∙◌, ◌∷◌, ◌≡◌, ◌≢◌, ◌≤◌, ◌⊎◌}
pub use Rattle.std.proofs.Math.Seq.{take-add, take-append_seam}
pub use Rattle.std.proofs.lemmas.Bool.{and_from, and_left, and_right, eq-eqb, false_from_ne_true}
pub use Rattle.std.proofs.lemmas.Bool.Decides.{nat_tests}
pub use Rattle.std.proofs.lemmas.List.{drop_more, get_or-take, length-append, length-map, reverse-append, take-append-drop, take-append-le, take-take, take_all, take_min, take_more, take_rest}
pub use Rattle.std.proofs.lemmas.Option.{get_or_from_slice_get, same_Some, slice_get-get_or, slice_get-map, slice_get_past, slice_get_within}
pub use Rattle.std.proofs.lemmas.Result.{IfOk-weaker, err_from_is_err_and}
pub use Rattle.std.specs.List.{AllByRecursion, slice_index_or}
pub use Rattle.std.specs.Result.{IfErr, IsErrAnd, OnOk}
pub use Rattle.std.specs.declared.rc.Rc.{Rc}
pub use Rattle.sm_lemmas.proofs.Lists.{get_below, get_pushed}
pub use Rattle.sm_io.proofs.ReadLemmas.{reads_more, reads_none}
pub use Rattle.sm_io.specs.Files.{ReadsFrom, WhereHeld, absent}
pub use Rattle.sm_io.specs.Reads.{Read, ReadsOn, ReadsWhole}
pub use Rattle.sm_syntax.proofs.Assumed.{assumed_same, some_mapped}
pub use Rattle.sm_syntax.specs.claim.ConflictFree.{A, B, Copy, M, O, copy_of, program_of}
pub use Rattle.sm_syntax.specs.claim.Syntax.{Code, Condition, End, While}
pub use Rattle.sm_syntax.specs.declared.copies.PerCopy.{PerCopy}
pub use Rattle.sm_syntax.specs.declared.tree.Name.{Name}
pub use Rattle.sm_syntax.specs.declared.tree.Sort.{Sort}
pub use Rattle.sm_syntax.specs.declared.tree.Sort.TheVariants.{Arr, Num}
pub use Rattle.sm_syntax.specs.text.Parts.{Parts, by_copy, sort_of, sorted_outputs, task_of}
pub use Rattle.sm_syntax.specs.text.Sorts.{IsAsDeclared, IsWellSorted, IsWellSortedCondition, Sorts}
pub use Rattle.sm_text.specs.Tasks.{parts_of}
pub use Rattle.sm_term.proofs.FormsLemmas.{contrary_within, form-later}
pub use Rattle.sm_term.proofs.TermsLemmas.{part_before}
pub use Rattle.sm_term.specs.Assertions.{And, Assertion, Eq, Le, Lt, Ne, No, Or, Yes, conj, negate}
pub use Rattle.sm_term.specs.Formulas.{IsFormulaWithin, NumberedFormula, assertion_in, numbered}
pub use Rattle.sm_term.specs.Sorted.{HasSort, IsDeclaredIn, tree_sort}
pub use Rattle.sm_term.specs.SymStores.{IsStoreWithin, store_in, tree_or_start}
pub use Rattle.sm_term.specs.Symbolic.{SymbolicStore}
pub use Rattle.sm_term.specs.TableLaws.{AreApart, AreTreesSorted, ExtendsTable}
pub use Rattle.sm_term.specs.Tables.{AreBefore, IsTermWithin, TableValue, codes_in, sorts_in, tree_at, tree_in, trees_in}
pub use Rattle.sm_term.specs.Terms.{Lit, Start, Tree}
pub use Rattle.sm_term.specs.declared.formula.Formula.{Formula}
pub use Rattle.sm_term.specs.declared.symbolic.SymStore.{SymStore}
pub use Rattle.sm_term.specs.declared.term.TermId.{TermId}
pub use Rattle.sm_plan.proofs.NodeListsExact.{is_few}
pub use Rattle.sm_plan.specs.Limits.{form_depth, form_nodes, is_shallow}
pub use Rattle.sm_plan.specs.Masks.{set_of}
pub use Rattle.sm_plan.specs.NodeLists.{above_opened}
pub use Rattle.sm_plan.specs.Nodes.{follows, opened_by, where_true}
pub use Rattle.sm_plan.specs.ReadyStates.{AreFormsReady, AreStoresReady, AreSuccessorsReady, IsFormReady, IsSuccessorReady}
pub use Rattle.sm_plan.specs.Views.{forms_in, opened_in, state_in, stores_in, successor_in}
pub use Rattle.sm_plan.specs.declared.opening.Successor.{Successor}
pub use Rattle.sm_plan.specs.declared.state.Formulas.{Formulas}
pub use Rattle.sm_plan.specs.declared.state.SymState.{SymState}
pub use Rattle.sm_theory.proofs.ArithmeticKept.{arithmetic_sorted}
pub use Rattle.sm_theory.proofs.FormsOfTermsLemmas.{one_place}
pub use Rattle.sm_theory.proofs.TheoriesLemmas.{ways_are_sorted_from}
pub use Rattle.sm_theory.specs.Facts.{BranchFact, Formal, Sum, as_facts}
pub use Rattle.sm_theory.specs.Lines.{CertificateLine, Sides, contrary_at, equation_at, followed, formula_at}
pub use Rattle.sm_theory.specs.Named.{EachNamed, facts_named, is_closing, is_split, terms_named, with_terms}
pub use Rattle.sm_theory.specs.SortedFacts.{AreFactsSorted, IsFactSorted}
pub use Rattle.sm_theory.specs.Views.{AllStand, FactStands, IsLineWithin, line_in, number_under}
pub use Rattle.sm_theory.specs.Ways.{Ways, adding, adds, both_parts, cannot_hold, closing_if, either_part, ways, ways_with}
pub use Rattle.sm_theory.specs.declared.fact.Fact.{Fact}
pub use Rattle.sm_theory.specs.declared.line.CertLine.{CertLine}
pub use Rattle.sm_cert.proofs.CertificateSound.{sorted_append}
pub use Rattle.sm_cert.proofs.CheckLemmas.{line_sorted}
pub use Rattle.sm_cert.proofs.WaysLemmas.{copied_more, stand_append}
pub use Rattle.sm_cert.specs.Ways.{SplitsInto, is_closed}
pub use Rattle.sm_proof.specs.Lines.{Cert, Form, Node, NumberedLine, ProofLine, line_of, numbered_line}
pub use Rattle.sm_proof.specs.Named.{and_then, are_there, found_or, line_head, named_line, named_node, node_head, tested_or}
pub use Rattle.sm_proof.specs.Passing.{Branch, Pending, Progress, after_line, after_node, branches_before, form_about, form_from, form_made, goal_branch, is_of, of_name, opened_before, start_progress, taken, taken_at, term_made, with_tree}
pub use Rattle.sm_proof.specs.Verdicts.{Before, FileLines, Reached, Refused, Standing, Subject, Underway, Unopened, Verdict, in_first_line, is_done, lines_in, next_standing, none_waits, opens_if, passes_version, reached, reached_after, reads_exact, subject_of, verdict, verdict_at_end}
pub use Rattle.sm_proof.specs.Versions.{begins_exact, has_exact, may_stand, read_with}
pub use Rattle.sm_proof.specs.declared.line.FormLine.{FormLine}
pub use Rattle.sm_proof.specs.declared.line.Line.{Line}
pub use Rattle.sm_proof.specs.declared.line.NodeLine.{NodeLine}
pub use Rattle.sm_proof.specs.declared.line.TermLine.{TermLine}
pub use Rattle.sm_proof.specs.declared.word.Head.{Head}
pub use Rattle.sm_proof.specs.declared.word.Word.{Word}
pub use Rattle.sm_proof.specs.declared.word.Word.TheVariants.{BadLine, BadNumber, BadVersion, Deep, First, Truncated}
pub use Rattle.sm_check.specs.Aside.{AreRead, ComesTo, HoldsNone, IsNoLine, StopsAt, certificates_of, lines_aside, progress_at, standing_after, with_line}
pub use Rattle.sm_check.specs.CertsTaken.{WalksIn, pending_after, splits_above}
pub use Rattle.sm_check.specs.Checkers.{HasFacts, IsAbout, IsAt, Stops, state_of}
pub use Rattle.sm_check.specs.Closing.{CloseFirst, Closes, IsGoalDue, LeadsTo, MoreStands, OpenFirst, Passes}
pub use Rattle.sm_check.specs.Files.{CheckError, Checked, Judged, Pass, ReadFault, Rejected, TellsAnswer, TooLong, cut_answer, file_answer, verdict_of}
pub use Rattle.sm_check.specs.FormRows.{AreNumeric, AreRowsReady, HaveOneSort, IsRowReady, RowStands, RowsStand, TellsRows, row_form}
pub use Rattle.sm_check.specs.Kept.{IsKeptForm, IsThere, KeepsOrFails, NamesEarlier, keep_of, node_with}
pub use Rattle.sm_check.specs.LineEnds.{HasNoEnd, Keeps, ended_in}
pub use Rattle.sm_check.specs.LineKinds.{Misses}
pub use Rattle.sm_check.specs.NodesTaken.{IsOpenedReady, WalksAt, opened_or}
pub use Rattle.sm_check.specs.Opened.{AreDenied, IsDenied, SaysContrary, waits_at}
pub use Rattle.sm_check.specs.Pending.{AllPending, AllWait, AreWaitingReady, DueStands, IsDueReady, IsMadeReady, IsReadyIfDue, IsWaitingReady, OnlyWaiting, PendingStands, Waiting, WaitingStands, shared_by}
pub use Rattle.sm_check.specs.Pieces.{AreEndedTaken, AreTaken, IsKept, RefusesAt, StopsIn, Takes, is_unopened, reach}
pub use Rattle.sm_check.specs.Stops.{stopped_answer}
pub use Rattle.sm_check.specs.Tells.{Tells}
pub use Rattle.sm_check.specs.TermsMade.{IsTerm, is_new, name_in, new_term, pair_of}
pub use Rattle.sm_check.specs.Walks.{IsWalkReady, WalkValue, Walks, terms_in}
pub use Rattle.sm_check.specs.declared.checker.Checker.{Checker}
pub use Rattle.sm_check.specs.declared.checker.State.TheVariants.{Done, More}
pub use Rattle.sm_check.specs.declared.openings.Opening.{Opening}
pub use Rattle.sm_check.specs.declared.raw_lines.RawLines.{RawLines}
pub use Rattle.sm_check.specs.declared.taken_lines.TakenLines.{TakenLines}
pub use Rattle.sm_check.specs.declared.unfinished.Unfinished.{Unfinished}
