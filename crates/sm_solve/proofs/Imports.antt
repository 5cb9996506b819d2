-- What proofs of this crate name of definitions and of the lemmas of other crates.
pub use Rattle.std.proofs.Common.{Bool, Err, IfOk, IfSome, List, None, Ok, OnOk, Option, Result, [], add-one, ap, arith, drop, false, get_or, if◌then◌else◌, inl, inr, is_some, length, map, max, min, nat_eq, nat_lt, not, option_map, refl, rules, slice_get, slice_set, subst, suc, sym, take, true, zero, ℕ, ℤ, ⊎_elim, ◌&&◌, ◌*◌, ◌++◌, ◌+◌, ◌-◌, ◌<◌, ◌==◌, ◌||◌, ◌∙◌, ◌∷◌, ◌≡◌, ◌≢◌, ◌≤◌, ◌⊎◌}
pub use Rattle.std.proofs.Math.Seq.{set-append_seam, take-append_seam, take-suc}
pub use Rattle.std.proofs.lemmas.Bool.{and_from, and_parts, cases_Bool, eqb-true, lt-ltb, ltb-true}
pub use Rattle.std.proofs.lemmas.List.{append-nil, append_assoc, drop-map, length-append, length-map, length-set, map-append, map-set, take-append-drop, take_all, take_more}
pub use Rattle.std.proofs.lemmas.Option.{same_Some, slice_get-map}
pub use Rattle.std.proofs.lemmas.Result.{IfOk-weaker, on_ok_weaker}
pub use Rattle.std.specs.List.{AllByRecursion, list_any, range_with_len}
pub use Rattle.std.specs.Prelude.{Box, IsFalse, pos}
pub use Rattle.sm_lemmas.proofs.Lists.{below_if_got, get_below, get_set, no_items}
pub use Rattle.sm_num.specs.Combining.{Fits, Leaves, Outcome}
pub use Rattle.sm_num.specs.Forms.{Linear}
pub use Rattle.sm_num.specs.Tightening.{is_contradictory, tightened}
pub use Rattle.sm_syntax.specs.declared.tree.Sort.TheVariants.{Num}
pub use Rattle.sm_syntax.specs.text.Sorts.{Sorts}
pub use Rattle.sm_term.proofs.FormsLemmas.{assertion-more, contrary_within, form_kept}
pub use Rattle.sm_term.proofs.FormulasLemmas.{contrary_negates}
pub use Rattle.sm_term.proofs.SortedForms.{forms_append, negate_sorted}
pub use Rattle.sm_term.specs.Assertions.{Assertion, negate}
pub use Rattle.sm_term.specs.Formulas.{IsFormulaWithin, NumberedFormula, assertion_in, contrary, numbered}
pub use Rattle.sm_term.specs.Heads.{arguments_of, same_head}
pub use Rattle.sm_term.specs.SameTerms.{same_sort, same_tree}
pub use Rattle.sm_term.specs.Sorted.{AreFormsSorted, IsFormSorted, tree_sort}
pub use Rattle.sm_term.specs.TableLaws.{AddsTerms, AreApart, AreTreesSorted}
pub use Rattle.sm_term.specs.Tables.{AreBefore, TableValue, codes_in, sorts_in, tree_at, trees_in}
pub use Rattle.sm_term.specs.Terms.{Add, Lit, Read, Start, Tree, Write}
pub use Rattle.sm_term.specs.declared.formula.Formula.{Formula}
pub use Rattle.sm_term.specs.declared.term.TermId.{TermId}
pub use Rattle.sm_omega.specs.Exact.{exact}
pub use Rattle.sm_theory.proofs.WaysLemmas.{adding_from, adding_gives, closing_gives, ways_with_sorted}
pub use Rattle.sm_theory.specs.Arithmetic.{arithmetic_adds, cancelled, compared_forms, form_of_comparison}
pub use Rattle.sm_theory.specs.Equality.{chained, equality_adds, formula_if, is_inhabited_list, or_other, say_equal, says_equal, substituted, turned_contrary, turned_equation}
pub use Rattle.sm_theory.specs.Facts.{BranchFact, Formal, Sum, as_facts}
pub use Rattle.sm_theory.specs.Lines.{Apart, Both, Cases, CertificateLine, Clash, Close, Cong, Either, Elim, Hit, Lin, Miss, Order, Refl, Same, Sides, Subst, Sym, Tight, Trans, contrary_at, equal_sides, equation_at, followed, form_at, form_in, formula_at, formula_in, unequal_sides}
pub use Rattle.sm_theory.specs.Named.{reads_all}
pub use Rattle.sm_theory.specs.TermsOfFormulas.{all_terms, is_among, put, with_formula, with_formulas, with_term}
pub use Rattle.sm_theory.specs.Views.{IsLineWithin, line_in}
pub use Rattle.sm_theory.specs.Ways.{Ways, adding, adds, both_parts, cannot_hold, closing_if, either_part, ordered, splitting, ways, ways_with}
pub use Rattle.sm_theory.specs.declared.line.CertLine.{CertLine}
pub use Rattle.sm_terms.proofs.ListingLemmas.{below_grown, same_grown}
pub use Rattle.sm_terms.proofs.WithTermLemmas.{AllOf, by_arguments, closed_none, closed_with_formulas, put_new, put_there, with_term_is, with_terms}
pub use Rattle.sm_terms.specs.Listing.{AllAmong, AreBelow, IsClosed, numbers_of, trees_at}
pub use Rattle.sm_cert.proofs.CheckLemmas.{end_in, line_sorted, lines_are, lines_of_end, tree_closed, tree_is}
pub use Rattle.sm_cert.specs.Certificates.{Certificate, Closed, bad_line, first_bad, in_no_way, in_one_way, in_two_ways, lines_in, splits_above}
pub use Rattle.sm_cert.specs.MovedTrees.{NamesWhatItReads}
pub use Rattle.sm_cert.specs.Views.{AreLinesWithin, certificate_in, end_layer, end_lines, lines_before, lines_of, tree_layer, tree_lines}
pub use Rattle.sm_cert.specs.declared.tree.CertEnd.{CertEnd, fold-roll-CertEnd}
pub use Rattle.sm_cert.specs.declared.tree.CertTree.{CertTree, CertTree-F, fold-roll-CertTree, roll-CertTree}
pub use Rattle.sm_pairs.specs.Longer.{IsLonger}
pub use Rattle.sm_cc.proofs.LeastLemmas.{equal_closed, equal_is_same, equal_least}
pub use Rattle.sm_cc.specs.BaseClasses.{AreAllGiven, AreBaseClasses, IsLedBy}
pub use Rattle.sm_cc.specs.Classes.{AreClosed, Setting, are_apart, brings, differ, equal_lists, given_equal, given_unequal, reads_written}
pub use Rattle.sm_cc.specs.Rounds.{are_equal}
pub use Rattle.sm_cc.specs.Views.{ClassesValue, setting_of}
pub use Rattle.sm_cc.specs.declared.classes.GivenFact.{GivenFact}
pub use Rattle.sm_list.proofs.BuiltLemmas.{FormulaAmong, FormulasAmong, formulas_among}
pub use Rattle.sm_list.proofs.OwnLemmas.{facts_grown, facts_within_grown}
pub use Rattle.sm_list.proofs.PartsLemmas.{flat_parts, queue_from, queue_last, shallow_below, with_parts-next}
pub use Rattle.sm_list.specs.Branches.{depth_of, greatest_of, parts_of, parts_of_all, put_if, read_before, taken_apart, terms_of, with_all_reads, with_parts, with_reads, writes_on}
pub use Rattle.sm_list.specs.Parts.{AreFormulasWithin, all_numbered, assertions_in}
pub use Rattle.sm_list.specs.Renumbered.{AreTermsOf}
pub use Rattle.sm_list.specs.Shared.{AreShared, with_those_before}
pub use Rattle.sm_list.specs.declared.shared.SharedTerms.{SharedTerms}
pub use Rattle.sm_judge.proofs.ClosingLemmas.{facts_count, within_at}
pub use Rattle.sm_judge.specs.AllForms.{AreAllForms}
pub use Rattle.sm_judge.specs.Forms.{Closes, Opens, TooFar, Walked, by_forms, counted, eliminated_by, forms_of}
pub use Rattle.sm_judge.specs.Holding.{Seen, are_torn, first_of, index_split, is_closed, is_fact, is_held, is_refuted, order_split, part_split, split_of}
pub use Rattle.sm_judge.specs.Labelled.{AreLabels}
pub use Rattle.sm_judge.specs.Refutations.{AreSources, GivesForms, TellsForms}
pub use Rattle.sm_judge.specs.Seeing.{seen_in}
pub use Rattle.sm_judge.specs.Splits.{IsToldWithin, SplitsBranch, split_told}
pub use Rattle.sm_judge.specs.declared.closing.BranchSplit.{BranchSplit}
pub use Rattle.sm_judge.specs.declared.eliminating.ByForms.{ByForms}
pub use Rattle.sm_certify.proofs.GivenLemmas.{all_whole, given_from-cons, given_of_terms, seen_by_classes, whole_before}
pub use Rattle.sm_certify.proofs.NamingLemmas.{same_with_formulas, with_formulas-append}
pub use Rattle.sm_certify.specs.Bases.{IsFrom}
pub use Rattle.sm_certify.specs.Given.{IsWhole, branch_of, classes_by, given_from, seen_by}
pub use Rattle.sm_certify.specs.Refutes.{Refutes}
pub use Rattle.sm_solve.specs.Answers.{Certifies, NamesOnly, Tells, terms_walked}
pub use Rattle.sm_solve.specs.AtGoal.{HasRoom, IsAtGoal, facts_without}
pub use Rattle.sm_solve.specs.Inconsistent.{IsBelow, IsInconsistent, IsInconsistentBy}
pub use Rattle.sm_solve.specs.Leading.{both_line, both_lines, led_by}
pub use Rattle.sm_solve.specs.Naming.{AreNamed, NameNoMore, NamesNoMore}
pub use Rattle.sm_solve.specs.Sharing.{IsFactBase, room_for_goal}
pub use Rattle.sm_solve.specs.Walk.{Reach, by_classes, by_decision, by_no_split, by_parts, decided, walk, walk_from}
pub use Rattle.sm_solve.specs.Walking.{ClosesIn, IsEndCounted, IsVisitCounted, Shows, ShowsEnd, ShowsVisit, TellsEnd, TellsVisit, by_split}
pub use Rattle.sm_solve.specs.declared.fact_base.FactBase.{FactBase}
pub use Rattle.sm_solve.specs.declared.inconsistent.Inconsistent.{Inconsistent}
pub use Rattle.sm_solve.specs.declared.visiting.Visit.{Visit}
