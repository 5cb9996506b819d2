-- What proofs of this crate name of definitions and of the lemmas of other crates.
pub use Rattle.std.proofs.Common.{Bool, List, None, OnOk, Option, Some, [], ap, arith, drop, false, get_or, inl, inr, length, map, max, pos, refl, slice_get, slice_set, subst, suc, sym, take, true, zero, ℕ, ◌&&◌, ◌++◌, ◌+◌, ◌-◌, ◌<◌, ◌==◌, ◌||◌, ◌∙◌, ◌∷◌, ◌≡◌, ◌≤◌, ◌⊎◌}
pub use Rattle.std.proofs.Math.Seq.{drop-append_seam, take-append-add, take-append_seam}
pub use Rattle.std.proofs.lemmas.Bool.{cases_lt, eqb-false, eqb-true}
pub use Rattle.std.proofs.lemmas.List.{append-nil, append_assoc, drop_more, get_or-set_other, get_or-set_same, get_or_append_left, length-append, length-map, map-append, map-set, take-append-drop, take-map, take_all, take_more}
pub use Rattle.std.proofs.lemmas.Option.{get_or_from_slice_get, slice_get-get_or, slice_get_within}
pub use Rattle.std.proofs.lemmas.Result.{IfOk-weaker, on_ok_weaker}
pub use Rattle.std.specs.List.{list_any}
pub use Rattle.std.specs.Prelude.{Box}
pub use Rattle.std.specs.declared.alloc.Global.{Global}
pub use Rattle.sm_syntax.specs.claim.Syntax.{Code}
pub use Rattle.sm_syntax.specs.text.Sorts.{Sorts}
pub use Rattle.sm_term.proofs.FormsLemmas.{assertion-more, form_kept}
pub use Rattle.sm_term.proofs.SameTermsLemmas.{same_tree_is}
pub use Rattle.sm_term.proofs.TablesLemmas.{grown-with_tree, grows-twice}
pub use Rattle.sm_term.proofs.TreesLemmas.{tree_at-more}
pub use Rattle.sm_term.specs.Assertions.{Assertion}
pub use Rattle.sm_term.specs.Fitting.{arguments_fit, has_sort, term_fits}
pub use Rattle.sm_term.specs.Formulas.{IsFormulaWithin, NumberedFormula, assertion_in, numbered}
pub use Rattle.sm_term.specs.Heads.{arguments_of}
pub use Rattle.sm_term.specs.Moves.{moved_contents, moved_numbers}
pub use Rattle.sm_term.specs.RowLaws.{Contents, contents_of}
pub use Rattle.sm_term.specs.Rows.{names_in_list, names_of_term, parts_in_list, parts_of_term, term_numbers}
pub use Rattle.sm_term.specs.SameTerms.{same_tree}
pub use Rattle.sm_term.specs.Sorted.{IsDeclaredIn, tree_sort}
pub use Rattle.sm_term.specs.TableLaws.{AddsTerms, AreApart, with_tree}
pub use Rattle.sm_term.specs.Tables.{AreBefore, IsTermWithin, TableValue, arguments_in, code_at, codes_in, sorts_in, tree_at, tree_in, trees_in}
pub use Rattle.sm_term.specs.Terms.{Add, Cell, Fun, Havoc, Lit, Mul, Neg, Read, Slot, Start, Sub, Tree, Write}
pub use Rattle.sm_term.specs.declared.term.Term.{Term}
pub use Rattle.sm_term.specs.declared.term.TermId.{TermId}
pub use Rattle.sm_theory.proofs.LinesOver.{each_more, each_with, with_same, with_twice}
pub use Rattle.sm_theory.specs.Named.{EachNamed}
pub use Rattle.sm_theory.specs.TermsOfFormulas.{is_among, put, with_formula, with_formulas, with_term}
pub use Rattle.sm_theory.specs.Views.{IsLineWithin, line_in, number_under, numbered_line}
pub use Rattle.sm_theory.specs.declared.line.CertLine.{CertLine}
pub use Rattle.sm_euf.specs.Arguments.{argument_numbers, trees_of}
pub use Rattle.sm_terms.proofs.ListingLemmas.{below_at, below_grown, below_put, listed_put, same_grown, tree_of_place}
pub use Rattle.sm_terms.proofs.WithTermLemmas.{AllOf, all_kept, among-left, among-right, among_put, among_put_cases, among_with_term, among_with_terms, by_arguments, closed_none, closed_put, closed_with_formulas, kept_put, kept_with_term, put_new, put_there, same_itself, with_term_is}
pub use Rattle.sm_terms.specs.Listing.{AllAmong, AreBelow, IsClosed, numbers_of, trees_at}
pub use Rattle.sm_cert.proofs.CheckLemmas.{lines_closed, lines_split, tree_closed, tree_split, within_parts}
pub use Rattle.sm_cert.specs.Certificates.{Certificate, Closed, Next, Split}
pub use Rattle.sm_cert.specs.NamedTerms.{EachTerm}
pub use Rattle.sm_cert.specs.Views.{AreLinesWithin, certificate_in, lines_before, lines_of}
pub use Rattle.sm_cert.specs.declared.tree.CertTree.{CertTree, roll-CertTree}
pub use Rattle.sm_pairs.proofs.LongerLemmas.{longer_twice}
pub use Rattle.sm_list.specs.Branches.{IsOneOf, depth_of, greatest_of, parts_of, parts_of_all, put_if, read_before, taken_apart, terms_of, with_all_reads, with_parts, with_reads, writes_on}
pub use Rattle.sm_list.specs.Own.{AreBuilt, ArePlaced}
pub use Rattle.sm_list.specs.Parts.{AreFormulasWithin, all_numbered, assertions_in, numbered_at, numbered_parts}
pub use Rattle.sm_list.specs.Renumber.{AreLinesUnder, IsLineUnder, formula_under}
pub use Rattle.sm_list.specs.Renumbered.{AreTermsOf}
pub use Rattle.sm_list.specs.Shared.{AreShared, with_those_before}
