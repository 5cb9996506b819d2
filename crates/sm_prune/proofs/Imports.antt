-- What proofs of this crate name of definitions and of the lemmas of other crates.
pub use Rattle.std.proofs.Common.{Bool, IfOk, IsTrue, List, None, Ok, Option, Result, Some, [], ap, append-nil, append_assoc, arith, false, get_or, if◌then◌else◌, inl, inr, length, map, nat_eq, refl, reverse, slice_get, subst, suc, sym, take, true, zero, ℕ, ◌&&◌, ◌++◌, ◌+◌, ◌<◌, ◌^◌, ◌||◌, ◌∙◌, ◌∷◌, ◌≡◌, ◌≤◌, ◌⊎◌}
pub use Rattle.std.proofs.lemmas.Bool.{cases_Bool, or_left, or_right}
pub use Rattle.std.proofs.lemmas.Bool.Decides.{Decides-eqb}
pub use Rattle.std.proofs.lemmas.List.{get_or_append_left, length-append, map-append, nil_from_length, reverse-append, take_more}
pub use Rattle.std.proofs.lemmas.Option.{get_or_from_slice_get, same_Some, slice_get-get_or, slice_get_within}
pub use Rattle.std.specs.List.{AllByRecursion, list_any}
pub use Rattle.sm_syntax.specs.text.Sorts.{Sorts}
pub use Rattle.sm_term.specs.Assertions.{Assertion}
pub use Rattle.sm_term.specs.Terms.{Tree}
pub use Rattle.sm_plan.specs.States.{State}
pub use Rattle.sm_theory.proofs.LinesOver.{each_with, facts_with, reads_with, splits_with, terms_with, with_same, with_twice}
pub use Rattle.sm_theory.specs.Lines.{CertificateLine, followed}
pub use Rattle.sm_theory.specs.Named.{EachNamed, EachOf, is_split, reads_all, terms_named, with_terms}
pub use Rattle.sm_proof.proofs.ProgressLemmas.{found_from, made_from, same_end, tested_from}
pub use Rattle.sm_proof.specs.Lines.{Cert, Form, Header, Node, NumberedLine, ProofLine, Term, line_of}
pub use Rattle.sm_proof.specs.Named.{and_then, are_there, found_or, line_head, named_line, named_node, node_head, tested_or}
pub use Rattle.sm_proof.specs.Passing.{Branch, Due, Pending, Progress, after_line, after_node, branches_before, form_made, opened_before, start_progress, taken, taken_at, term_made}
pub use Rattle.sm_proof.specs.Versions.{is_exact}
pub use Rattle.sm_proof.specs.declared.line.FormLine.{FormLine}
pub use Rattle.sm_proof.specs.declared.line.Line.{Line}
pub use Rattle.sm_proof.specs.declared.line.NodeLine.{NodeLine}
pub use Rattle.sm_proof.specs.declared.line.TermLine.{TermLine}
pub use Rattle.sm_proof.specs.declared.word.Word.{Word}
pub use Rattle.sm_prune.specs.Laws.{LeadAlike}
pub use Rattle.sm_prune.specs.LeftLines.{AreTold, Numbering, forms_after, is_left, left_lines, left_passes, line_before, line_by, more_if, new_number, no_numbers, numbers_after, terms_after}
pub use Rattle.sm_prune.specs.LineNumbers.{forms_of, forms_of_form, forms_of_node, names_form, names_term, renumbered, renumbered_form, renumbered_node, renumbered_term, terms_of, terms_of_form, terms_of_term}
pub use Rattle.sm_prune.specs.Marks.{AreMarked, AreMarks, IsTelling, MarksMore, answers_of, forms_past, lines_told, terms_past}
pub use Rattle.sm_prune.specs.Numbers.{numbering_of}
pub use Rattle.sm_prune.specs.Texts.{AreReadable, IsReadable, advanced}
pub use Rattle.sm_prune.specs.UsedLines.{AreNamed}
pub use Rattle.sm_prune.specs.declared.told.Told.{Told}
