-- What proofs of this crate name of definitions and of the lemmas of other crates.
pub use Rattle.std.proofs.Common.{All, Bool, Err, IfErr, IfOk, List, None, Ok, Result, Some, [], ap, append-nil, append_assoc, arith, codes, drop, false, if◌then◌else◌, inl, inr, length, length-drop, map, refl, rules, subst, suc, sym, true, ℕ, ◌&&◌, ◌++◌, ◌+◌, ◌<◌, ◌∙◌, ◌∷◌, ◌≡◌, ◌≢◌, ◌≤◌, ◌⊎◌}
pub use Rattle.std.proofs.lemmas.Bool.{le-leb, leb-true}
pub use Rattle.std.proofs.lemmas.List.{append_cancel_left, take-append-drop, take_rest}
pub use Rattle.std.specs.Str.{IsUtf8, is_utf8}
pub use Rattle.sm_io.specs.Causes.{Rose}
pub use Rattle.sm_io.specs.Files.{Known, WhereHeld, absent, holds, untold}
pub use Rattle.sm_io.specs.Reads.{Read, ReadsOn, ReadsWhole, joined, reads_on}
pub use Rattle.sm_syntax.specs.claim.ConflictFree.{ConflictFree}
pub use Rattle.sm_syntax.specs.claim.Stores.{Store}
pub use Rattle.sm_syntax.specs.text.Parts.{Parts, sort_of, task_of}
pub use Rattle.sm_syntax.specs.text.Spells.{Spells}
pub use Rattle.sm_syntax.specs.text.Symbols.{names_of}
pub use Rattle.sm_task.proofs.RefusalUnique.{one_refusal, task_or_refusal}
pub use Rattle.sm_task.specs.Tasks.{parts_of}
pub use Rattle.sm_eval.specs.StoredValues.{meaning}
pub use Rattle.sm_replay.specs.declared.error.ReplayError.{ReplayError}
pub use Rattle.sm_proof.specs.Verdicts.{Before, FileLines, Pass, Passes, Reached, Rejected, Unopened, in_first_line, lines_in, reached, subject_of, verdict}
pub use Rattle.sm_proof.specs.declared.word.Word.{Word}
pub use Rattle.sm_check.proofs.LineLemmas.{lines_in-plain, with_byte}
pub use Rattle.sm_check.specs.Files.{FileAnswer, Judged, OverLong, TellsAnswer, cut_answer, file_answer, verdict_of}
pub use Rattle.sm_check.specs.declared.verifying.CheckError.{CheckError}
pub use Rattle.sm_check.specs.declared.verifying.Checked.{Checked}
pub use Rattle.sm_answers.specs.Exit.{Exit, ExitsWith}
pub use Rattle.sm_answers.specs.File.{Conflict, FailsToRead, GivesNoBytes, GivesNoTask, GivesTask, IsNoTask, IsRead, IsTooLong, Memory, SinkFault, Unknown, Usage, WriteFault, file_limit}
pub use Rattle.sm_answers.specs.Lines.{input_refusal_line, refusal_line, verdict_line}
pub use Rattle.sm_answers.specs.Listed.{line_before}
pub use Rattle.sm_answers.specs.Lists.{GivesList, GivesNoList, IsList, bad_line, bad_line_after, bad_list_line, is_name, is_short, names_in}
pub use Rattle.sm_answers.specs.Readings.{PassesRead, ReadsInput, ReadsOnce, ReadsProof, ReadsTask, ReplaysRead, RunsRead, VerifiesRead}
pub use Rattle.sm_answers.specs.Replay.{AnswersReplay, GivesInput, GivesNoInput, IsNoInput, Replays, ReplaysInput, verdict_status}
pub use Rattle.sm_answers.specs.Status.{Says}
pub use Rattle.sm_answers.specs.Verify.{AnswersProof, Verifies, answer_line, answer_status, proof_limit, rejected_line}
pub use Rattle.sm_answers.specs.Views.{SaysChecked}
pub use Rattle.sm_answers.specs.declared.status.Reply.{Reply}
