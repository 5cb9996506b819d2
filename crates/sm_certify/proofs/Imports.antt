-- What proofs of this crate name of definitions and of the lemmas of other crates.
pub use Rattle.std.proofs.Common.{Bool, IfSome, IsTrue, List, None, Option, Some, [], ap, arith, drop, false, get_or, if◌then◌else◌, inl, inr, length, map, nat_le, negsuc, not, pos, refl, slice_get, slice_set, subst, suc, sym, take, true, zero, ℕ, ℤ, ⊎_elim, ◌&&◌, ◌++◌, ◌+◌, ◌-◌, ◌<◌, ◌||◌, ◌∙◌, ◌∷◌, ◌≡◌, ◌≤◌, ◌⊎◌}
pub use Rattle.std.proofs.lemmas.Bool.{and_parts, cases_Bool, le-leb, or_left, or_right}
pub use Rattle.std.proofs.lemmas.List.{append-nil, drop_all, drop_more, get_or-take, length-drop, length-map, length-take-le, map-append, take_all, take_at, take_more}
pub use Rattle.std.proofs.lemmas.Option.{get_or_from_slice_get, same_Some, slice_get-get_or, slice_get-map, slice_get_read, slice_get_within}
pub use Rattle.std.specs.List.{filter_map, list_all, list_any, range_with_len}
pub use Rattle.std.specs.Ordering.{int_eq}
pub use Rattle.sm_lemmas.proofs.Lists.{get_in_first, one_thing, range_more, together}
pub use Rattle.sm_num.specs.Combining.{Fits, Leaves, Outcome, then_with}
pub use Rattle.sm_num.specs.Forms.{Linear, coefficient}
pub use Rattle.sm_syntax.specs.declared.tree.Sort.{Sort}
pub use Rattle.sm_syntax.specs.declared.tree.Sort.TheVariants.{Num}
pub use Rattle.sm_syntax.specs.text.Sorts.{Sorts}
pub use Rattle.sm_term.proofs.SameTermsLemmas.{same_tree_is}
pub use Rattle.sm_term.specs.Assertions.{Assertion}
pub use Rattle.sm_term.specs.Formulas.{IsFormulaWithin, NumberedFormula, assertion_in, numbered}
pub use Rattle.sm_term.specs.Heads.{arguments_of, same_head}
pub use Rattle.sm_term.specs.SameTerms.{same_tree}
pub use Rattle.sm_term.specs.Sorted.{AreFormsSorted, tree_sort}
pub use Rattle.sm_term.specs.TableLaws.{AreApart}
pub use Rattle.sm_term.specs.Tables.{AreBefore, IsTermWithin, TableValue, codes_in, sorts_in, tree_at, tree_in, trees_in}
pub use Rattle.sm_term.specs.Terms.{Lit, Read, Tree, Write}
pub use Rattle.sm_term.specs.declared.formula.Formula.{Formula}
pub use Rattle.sm_term.specs.declared.term.TermId.{TermId}
pub use Rattle.sm_theory.proofs.FactsLemmas.{followed_from}
pub use Rattle.sm_theory.proofs.FormsOfTermsLemmas.{one_place}
pub use Rattle.sm_theory.proofs.LinearStanding.{can_cancel_stands, combined_stands, contradictory_stands, eliminated_stands}
pub use Rattle.sm_theory.specs.Arithmetic.{cancelled, compared_forms, difference, form_fact, form_of_comparison, is_numeric, one_more}
pub use Rattle.sm_theory.specs.Equality.{chained, formula_if, is_inhabited_list, or_other, say_equal, says_equal, substituted, turned_contrary, turned_equation}
pub use Rattle.sm_theory.specs.ExactLine.{exact_adds, form_by_places, forms_by_places, forms_of_branch, has_no_solution}
pub use Rattle.sm_theory.specs.Facts.{BranchFact, Formal, Sum, as_facts}
pub use Rattle.sm_theory.specs.Lines.{Apart, Both, Cases, CertificateLine, Clash, Close, Cong, Either, Elim, Exact, Hit, Lin, Miss, Order, Refl, Sides, Subst, Sym, Tight, Trans, contrary_at, equal_sides, equation_at, followed, form_at, form_in, formula_at, formula_in, unequal_sides}
pub use Rattle.sm_theory.specs.Standing.{HaveOnePlace, IsKeptFor, IsOutcomeFor, StandsAt}
pub use Rattle.sm_theory.specs.TermsOfFormulas.{all_terms, is_among, put, with_formula, with_formulas, with_term}
pub use Rattle.sm_theory.specs.Views.{IsLineWithin, line_in}
pub use Rattle.sm_theory.specs.Ways.{Ways, adding, adds, cannot_hold, closing_if, goes_on_with, ways, ways_with}
pub use Rattle.sm_theory.specs.declared.line.CertLine.{CertLine}
pub use Rattle.sm_terms.proofs.WithTermLemmas.{among_with_term, closed_none, closed_with_formulas, closed_with_term, put_new, same_with_term, with_term_is, with_terms}
pub use Rattle.sm_terms.specs.Listing.{AllAmong, AreBelow, IsClosed, trees_at}
pub use Rattle.sm_cert.proofs.CheckLemmas.{lines_closed, splits_before, tree_closed}
pub use Rattle.sm_cert.specs.Certificates.{Certificate, Closed, first_bad, in_no_way, in_one_way, splits_above}
pub use Rattle.sm_cert.specs.Views.{AreLinesWithin, certificate_in, lines_before, lines_of}
pub use Rattle.sm_pairs.proofs.AmongLemmas.{there_among}
pub use Rattle.sm_pairs.proofs.LongerLemmas.{slice_get-longer}
pub use Rattle.sm_pairs.specs.Pairs.{Pairs}
pub use Rattle.sm_cc.proofs.LeastLemmas.{apart_alike, equal_alike, equal_is_same}
pub use Rattle.sm_cc.proofs.StepsLemmas.{first_behind}
pub use Rattle.sm_cc.specs.AddedTerms.{AddsOnly, AreEqualByLabels, IsContraryOf, IsGivenBefore}
pub use Rattle.sm_cc.specs.Classes.{Setting, are_apart}
pub use Rattle.sm_cc.specs.Explained.{AreLinesOf, Explain, IsLineOf, IsListed, StandAt, added_by}
pub use Rattle.sm_cc.specs.Rounds.{are_equal}
pub use Rattle.sm_cc.specs.Views.{AreOfTwoTerms, ClassesValue, IsOfTwoTerms, IsTermOf, assertion_given, contrary_under, equation_of, equation_under, setting_of}
pub use Rattle.sm_cc.specs.declared.classes.GivenFact.{GivenFact}
pub use Rattle.sm_list.proofs.BuiltLemmas.{FormulaAmong, FormulasAmong, formulas_among}
pub use Rattle.sm_list.proofs.RenumberLemmas.{within-append}
pub use Rattle.sm_list.specs.Parts.{AreFormulasWithin, all_numbered, assertions_in}
pub use Rattle.sm_judge.proofs.ClosingLemmas.{fact_at, some_refuted, within_at}
pub use Rattle.sm_judge.specs.Forms.{less_by, place_in}
pub use Rattle.sm_judge.specs.Holding.{Seen, are_torn, is_closed, is_refuted}
pub use Rattle.sm_judge.specs.Places.{HavePlaces}
pub use Rattle.sm_judge.specs.Refutations.{AreSources, Contradict, IsRefutation, IsSource, comparison_by}
pub use Rattle.sm_judge.specs.declared.eliminating.ElimLine.{ElimLine}
pub use Rattle.sm_judge.specs.declared.forms.Source.{Source}
pub use Rattle.sm_certify.specs.Deciding.{Decides, StandInOrder}
pub use Rattle.sm_certify.specs.Given.{IsWhole, branch_of, classes_by, given_from}
pub use Rattle.sm_certify.specs.Refutes.{Refutes}
pub use Rattle.sm_certify.specs.Refuting.{AddsEquation, AddsSource, AreMarked, ArePlaces, AreWritten, IfMarked, IsFormAt, IsUsable, Leads, MarksSum, StandAsForms, mark_at}
