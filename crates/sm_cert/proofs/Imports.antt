-- What proofs of this crate name of definitions and of the lemmas of other crates.
pub use Rattle.std.proofs.Common.{Bool, Err, IfErr, IfOk, IsErrAnd, List, None, Ok, Result, Some, [], ap, arith, drop, false, get_or, if◌then◌else◌, inl, inr, length, max, nat_lt, refl, rules, slice_get, subst, suc, sym, take, true, zero, ℕ, ◌*◌, ◌++◌, ◌+◌, ◌-◌, ◌<◌, ◌∙◌, ◌∷◌, ◌≡◌, ◌≤◌, ◌⊎◌}
pub use Rattle.std.proofs.lemmas.Bool.{lt-ltb, ltb-false, ltb-true}
pub use Rattle.std.proofs.lemmas.List.{drop_more, length-append, take_more}
pub use Rattle.std.specs.Prelude.{Box}
pub use Rattle.std.specs.declared.alloc.Global.{Global}
pub use Rattle.sm_syntax.specs.text.Sorts.{Sorts}
pub use Rattle.sm_term.specs.Formulas.{And, IsFormulaWithin, NumberedFormula, assertion_in, numbered}
pub use Rattle.sm_term.specs.TableLaws.{AreApart, AreTreesSorted}
pub use Rattle.sm_term.specs.Tables.{sorts_in, tree_at, trees_in}
pub use Rattle.sm_term.specs.Terms.{Tree}
pub use Rattle.sm_theory.proofs.TheoriesLemmas.{adds_anywhere, adds_hold, adds_sorted, one_of, one_of_holds, one_of_sorted}
pub use Rattle.sm_theory.proofs.WaysLemmas.{ways_with_move, ways_with_sorted}
pub use Rattle.sm_theory.specs.Equality.{or_other, says_equal}
pub use Rattle.sm_theory.specs.Facts.{AreFacts, BranchFact, Formal, IsContradictory, IsFact, Sum}
pub use Rattle.sm_theory.specs.Laws.{AddsWhatHolds, AddsWhatIsSorted, EachWay, NoWayHolds, TheoryAdds}
pub use Rattle.sm_theory.specs.Lines.{Apart, Both, Cases, CertificateLine, Clash, Close, Cong, Either, Elim, Exact, Hit, Lin, Miss, Order, Refl, Same, Sides, Subst, Sym, Tight, Trans, contrary_at, equation_at, followed, formula_at}
pub use Rattle.sm_theory.specs.SortedFacts.{AreFactsSorted, IsFactSorted, IsLineSorted}
pub use Rattle.sm_theory.specs.Views.{AllStand, FactStands, IsLineWithin, StandsIf, line_in, numbered_line}
pub use Rattle.sm_theory.specs.Ways.{Ways, adding, adds, both_parts, cannot_hold, closing_if, is_absurd, ways_with}
pub use Rattle.sm_theory.specs.declared.fact.Fact.{Fact}
pub use Rattle.sm_theory.specs.declared.line.CertLine.{CertLine}
pub use Rattle.sm_cert.specs.Certificates.{Certificate, Closed, Next, Refused, Split, Theories, TooManySplits, bad_line, first_bad, first_of_three, in_no_way, in_one_way, in_two_ways, lines_in, refused, splits_above}
pub use Rattle.sm_cert.specs.Check.{Arrives, Passes, line_number}
pub use Rattle.sm_cert.specs.NamedTerms.{IsCertificateSorted}
pub use Rattle.sm_cert.specs.Views.{AreLinesWithin, CertEnd, CertTree, FaultTells, certificate_in, end_layer, end_lines, fold-CertEnd, fold-roll-CertEnd, fold_out-CertTree, lines_before, lines_of, rolls-Close, rolls-Split, tree_layer, tree_lines}
pub use Rattle.sm_cert.specs.Ways.{GoesOn, SplitsInto, is_closed}
pub use Rattle.sm_cert.specs.declared.error.CertFault.{CertFault}
