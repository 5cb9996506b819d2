-- What proofs of this crate name of definitions and of the lemmas of other crates.
pub use Rattle.std.proofs.Common.{Bool, Err, List, None, Ok, Option, Some, [], ap, append_assoc, arith, cond, count_by, drop, false, get_or, if◌then◌else◌, inl, inr, is_some, length, length-append, length-take-le, map, nat_le, nat_lt, neg_ℤ, negsuc, not, of_z, option_map, pos, refl, rules, slice_get, subst, suc, sym, take, to_z, true, zero, ℕ, ◌%◌, ◌&&◌, ◌*◌, ◌++◌, ◌+◌, ◌-ℤ◌, ◌-◌, ◌/◌, ◌<◌, ◌==◌, ◌^◌, ◌∙◌, ◌∷◌, ◌≡◌, ◌≢◌, ◌≤◌, ◌⊎◌}
pub use Rattle.std.proofs.lemmas.Bool.{and_from, and_parts, lt-ltb, ltb-true, ne_eqb}
pub use Rattle.std.proofs.lemmas.Bool.Decides.{Decides-eqb, Decides-ltb, nat_tests}
pub use Rattle.std.proofs.lemmas.Fmt.{decimal_by_steps_wide, decimal_digit, decimal_is_IsNumeral_wide, decimal_step_wide}
pub use Rattle.std.proofs.lemmas.Int.{ints, to_z-of_z}
pub use Rattle.std.proofs.lemmas.List.{take_all}
pub use Rattle.std.proofs.lemmas.List.Sums.{prefix_len-le-length}
pub use Rattle.std.proofs.lemmas.Option.{same_Some, slice_get-get_or}
pub use Rattle.std.proofs.lemmas.Slice.Eq.{bytes_eq-Decides}
pub use Rattle.std.proofs.lemmas.Str.Parse.{digit_at, digit_from_value, digits_value-take-le}
pub use Rattle.std.specs.Char.{digit_value, is_ascii_digit}
pub use Rattle.std.specs.Fmt.{decimal, signed_decimal}
pub use Rattle.std.specs.Int.{IsInRange, w128}
pub use Rattle.std.specs.List.{find, prefix_len}
pub use Rattle.std.specs.Prelude.{IfErr, IfOk, MatchResult, codes}
pub use Rattle.std.specs.Str.{bytes_eq}
pub use Rattle.std.specs.Str.Parse.{AllDigits, digits_value, digits_value_after, signed_digits_value, without_leading_sign}
pub use Rattle.sm_lemmas.proofs.Tests.{both_pass, le_from_test, le_true}
pub use Rattle.sm_num.specs.Range.{fits}
pub use Rattle.sm_syntax.specs.claim.ConflictFree.{Copy, Task, copy_of}
pub use Rattle.sm_syntax.specs.text.Parts.{by_copy, sort_of, task_of}
pub use Rattle.sm_syntax.specs.text.Sorts.{Sorts}
pub use Rattle.sm_term.specs.Assertions.{AllHold, And, Assertion, Eq, Le, Lt, Ne, No, Or, Yes, negate}
pub use Rattle.sm_term.specs.Fresh.{AreBelow, AreFormsBelow, IsBelow, IsFormBelow}
pub use Rattle.sm_term.specs.Sorted.{AreArgumentsSorted, AreFormsSorted, HasSort, IsDeclaredIn, IsFormSorted, IsSorted, IsStoreSorted, tree_sort}
pub use Rattle.sm_term.specs.Structures.{Structure}
pub use Rattle.sm_term.specs.Terms.{Add, Arguments, Cell, Fun, Given, Havoc, Mul, Neg, Over, Read, Slot, Start, Sub, Tree, Write}
pub use Rattle.sm_plan.proofs.BelowLemmas.{negate_below, start_below, state_later}
pub use Rattle.sm_plan.specs.Limits.{is_shallow}
pub use Rattle.sm_plan.specs.Nodes.{IsFreshAt, Opened, opened_by}
pub use Rattle.sm_plan.specs.SortedStates.{AreStatesSorted, IsNodeSorted, IsStateSorted, IsTaskSorted}
pub use Rattle.sm_plan.specs.SoundStates.{AreSound, AreStatesBelow, IsSound, IsStateBelow}
pub use Rattle.sm_plan.specs.States.{State, start_state}
pub use Rattle.sm_theory.proofs.FactsLemmas.{fact_is_below, fact_is_sorted, followed_from, formula_stands}
pub use Rattle.sm_theory.specs.Facts.{AreFacts, BranchFact, Formal, IsContradictory, Sum, as_facts}
pub use Rattle.sm_theory.specs.Lines.{CertificateLine, followed, formula_in}
pub use Rattle.sm_theory.specs.Named.{EachNamed, EachOf, facts_named, is_split, reads_all, terms_named, with_terms}
pub use Rattle.sm_theory.specs.SortedFacts.{AreFactsBelow, AreFactsSorted, EachAtom, IsFactBelow, IsLineBelow, IsLineSorted}
pub use Rattle.sm_cert.proofs.CertificateSound.{facts_append, sorted_append}
pub use Rattle.sm_proof.specs.Behind.{IsAnswer, IsNextWord, IsNoNumber, behind, fault_error, fault_word, line_in}
pub use Rattle.sm_proof.specs.Cases.{AreRead, CasesComeOut, ExactComesOut, FilesAreLines, TextsComeOut, VersionsComeOut, WholeComesOut, WordsComeOut, plain, reached_on, verdict_on, whole}
pub use Rattle.sm_proof.specs.FieldRanges.{AreNumbers, IsLiteral, IsWithinFields, numbers_of}
pub use Rattle.sm_proof.specs.Fields.{Takes, any, copy, filled, set, side, taking}
pub use Rattle.sm_proof.specs.HeadWords.{form_kind_of, form_kinds, form_word, head_of, head_word, heads, term_kind_of, term_kinds, term_word, version_word}
pub use Rattle.sm_proof.specs.Laws.{PassIsFree, PrefixesFail}
pub use Rattle.sm_proof.specs.Likely.{likely_form, likely_head, likely_term}
pub use Rattle.sm_proof.specs.Lines.{Cert, Close, End, Exact, Form, Header, Node, NumberedLine, ProofLine, Term, line_of}
pub use Rattle.sm_proof.specs.Named.{BadLine, BadNumber, BadVersion, Deep, Extra, First, Truncated, and_then, are_there, found_or, line_head, named_line, named_node, node_head, tested_or}
pub use Rattle.sm_proof.specs.Numbers.{literal_in, number_in, numbers_in, with_byte, words_of}
pub use Rattle.sm_proof.specs.Passing.{Branch, Due, Pending, Progress, after_line, after_node, are_numbers, branches_before, compared, form_about, form_from, form_made, goal_branch, have_one_sort, is_of, of_name, of_two, opened_before, present_term, side_of, start_progress, taken, taken_at, term_made, term_of_fact, with_tree}
pub use Rattle.sm_proof.specs.Reading.{read, read_cong, read_form, read_rest, read_term, read_version}
pub use Rattle.sm_proof.specs.Spelling.{HasKnownVersion, line_words, spaced}
pub use Rattle.sm_proof.specs.SpellingLaws.{ExactBegins, ReadIsSpelled, ReadRefuses, SpelledReadsBack}
pub use Rattle.sm_proof.specs.Verdicts.{Before, FileLines, Pass, Reached, Refused, Rejected, Standing, Subject, Underway, Unopened, Verdict, in_first_line, lines_in, next_standing, none_waits, opens_if, passes_version, reached, reached_after, reads_exact, subject_of, verdict_at_end}
pub use Rattle.sm_proof.specs.Versions.{are_exact, has_exact, is_exact, may_stand, read_with}
pub use Rattle.sm_proof.specs.declared.error.Fault.{Fault}
pub use Rattle.sm_proof.specs.declared.kind.FormKind.{FormKind}
pub use Rattle.sm_proof.specs.declared.kind.TermKind.{TermKind}
