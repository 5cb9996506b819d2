-- What proofs of this crate name of definitions and of the lemmas of other crates.
pub use Rattle.std.proofs.Common.{Bool, Err, List, None, Ok, Option, Result, Some, [], ap, append_assoc, eqb-true, false, if◌then◌else◌, length, map, nat_eq, refl, reverse, subst, suc, sym, take, true, zero, ℕ, ◌++◌, ◌==◌, ◌||◌, ◌∙◌, ◌∷◌, ◌≡◌}
pub use Rattle.std.proofs.lemmas.List.{append-nil, map-append, nil_from_length, reverse-append}
pub use Rattle.std.specs.List.{list_any}
pub use Rattle.std.specs.Prelude.{IsTrue, OnOk, Vec, option_map}
pub use Rattle.sm_text.specs.Tasks.{parts_of}
pub use Rattle.sm_theory.specs.Named.{facts_added, is_closing, is_split}
pub use Rattle.sm_proof.specs.Cases.{AreRead}
pub use Rattle.sm_proof.specs.Lines.{Apart, Both, Cases, Cert, Clash, Close, Cong, Either, Elim, Exact, Form, Header, Hit, Lin, Miss, Node, NumberedLine, Order, ProofLine, Refl, Same, Subst, Sym, Term, Tight, Trans, line_of, numbered_line}
pub use Rattle.sm_proof.specs.Passing.{Branch, Due, Pending, Progress, start_progress, taken, taken_at}
pub use Rattle.sm_proof.specs.Verdicts.{FileLines, Standing, Subject, Underway, Unopened, in_first_line, lines_in, next_standing, opens_if, passes_version, subject_of}
pub use Rattle.sm_prune.specs.UsedLines.{AreCertsUsed, AreNamed, HasNamedLines, HasUsedLines, IsCertUsed, IsUsedBy, branches_after, closing_lines, facts_due, is_fact_named, is_one_named, line_names_fact, lines_behind}
pub use Rattle.sm_check.specs.Checkers.{GoesOn, HasFacts, IsAt}
pub use Rattle.sm_used.specs.Counted.{AreCounted, AreRowsOf, AreUsed, Counts, IsLineUsed, Opens, line_in}
pub use Rattle.sm_used.specs.Names.{GoesOnce, Know, NamesMore, is_in, known}
pub use Rattle.sm_used.specs.declared.counting.Counted.{Counted}
pub use Rattle.sm_used.specs.declared.names.Names.{Names}
