-- What proofs of this crate name of definitions and of the lemmas of other crates.
pub use Rattle.std.proofs.Common.{Bool, Err, IfOk, IsTrue, List, None, Ok, Option, Result, Some, [], ap, append_assoc, arith, drop, false, get_or, if◌then◌else◌, inl, inr, length, map, max, nat_eq, nat_lt, pos, refl, replicate, slice_get, subst, suc, sym, take, true, zero, ℕ, ◌&&◌, ◌++◌, ◌+◌, ◌-◌, ◌<◌, ◌||◌, ◌∙◌, ◌∷◌, ◌≡◌, ◌≤◌, ◌⊎◌}
pub use Rattle.std.proofs.lemmas.Bool.{and_from, and_parts, eq-eqb, eqb-true, lt-ltb, ltb-false, ltb-true, or_left, or_right}
pub use Rattle.std.proofs.lemmas.List.{get_or-append-add, get_or-replicate, get_or_past, length-append, length-replicate, length-take, take-append-le}
pub use Rattle.std.proofs.lemmas.Result.{IfOk-weaker}
pub use Rattle.std.specs.List.{AllByRecursion, Contains, list_any, range_with_len}
pub use Rattle.sm_syntax.specs.text.Sorts.{Sorts}
pub use Rattle.sm_term.specs.Terms.{Cell, Lit, Tree}
pub use Rattle.sm_theory.proofs.TheoriesLemmas.{ways_add_so_many, ways_move_from}
pub use Rattle.sm_theory.specs.Facts.{BranchFact}
pub use Rattle.sm_theory.specs.Lines.{Apart, Both, Cases, CertificateLine, Clash, Close, Cong, Either, Elim, Exact, Hit, Lin, Miss, Order, Refl, Same, Subst, Sym, Tight, Trans}
pub use Rattle.sm_theory.specs.Moved.{ReadsAlike, StandsMoved, moved_line}
pub use Rattle.sm_theory.specs.Named.{EachNamed, EachOf, facts_added, facts_named, reads_all, terms_named}
pub use Rattle.sm_theory.specs.Views.{IsLineWithin, line_in, numbered_line}
pub use Rattle.sm_theory.specs.Ways.{Ways, adds, ways}
pub use Rattle.sm_theory.specs.declared.line.CertLine.{CertLine}
pub use Rattle.sm_cert.proofs.CheckLemmas.{end_in, lines_of_end, tree_split, within_parts}
pub use Rattle.sm_cert.specs.Certificates.{Certificate, Closed, Closes, Next, Split, TooManySplits, bad_line, first_bad, in_no_way, in_one_way, in_two_ways, lines_in, splits_above}
pub use Rattle.sm_cert.specs.Views.{AreLinesWithin, certificate_in, end_lines, lines_before, lines_of, tree_lines}
pub use Rattle.sm_cert.specs.declared.tree.CertTree.{CertTree, CertTree-F, fold-roll-CertTree, ind-CertTree, map-CertTree, roll-CertTree}
pub use Rattle.sm_trim.specs.Laws.{TrimmedCloses, TrimmedIsUsed, TrimmedTwice, UsedStays, trimmed}
pub use Rattle.sm_trim.specs.Named.{EachNamesFew, NamesFew, terms_in}
pub use Rattle.sm_trim.specs.Pruned.{LeftClosed, LeftNext, LeftSplit, Pruned, closed_up, needs, new_number, numbered_on, pruned, with_line, with_split}
pub use Rattle.sm_trim.specs.Used.{IsUsed, is_used, names_fact, some_pass}
pub use Rattle.sm_trim.specs.Views.{AreMarks, Leaves, MarksMore, facts_past, left_before, pruned_in}
pub use Rattle.sm_trim.specs.declared.left.LeftLine.{LeftLine}
pub use Rattle.sm_trim.specs.declared.left.LeftTree.{LeftTree, fold_out-LeftTree}
pub use Rattle.sm_trim.specs.declared.marks.Marks.{Marks}
