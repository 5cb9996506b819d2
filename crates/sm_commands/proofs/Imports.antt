-- What proofs of this crate name of definitions and of the lemmas of other crates.
pub use Rattle.std.proofs.Common.{Bool, IfErr, IfSome, List, None, Option, Some, [], ap, arith, false, if◌then◌else◌, inl, inr, length, map, option_map, refl, rules, subst, sym, true, true≢false, ℕ, ◌++◌, ◌<◌, ◌∙◌, ◌∷◌, ◌≡◌, ◌≢◌, ◌≤◌, ◌⊎◌}
pub use Rattle.std.specs.Prelude.{Err, Ok, Vec, option_and_then, ◌↔◌}
pub use Rattle.std.specs.String.{string_bytes}
pub use Rattle.sm_io.specs.Causes.{HasCause, Rose}
pub use Rattle.sm_io.specs.Files.{Known, WhereHeld, emptied, holds, longer, untold}
pub use Rattle.sm_syntax.specs.claim.ConflictFree.{A, B, ConflictFree}
pub use Rattle.sm_syntax.specs.claim.Stores.{Store}
pub use Rattle.sm_syntax.specs.declared.copies.CopyName.{CopyName}
pub use Rattle.sm_syntax.specs.text.Parts.{Parts, sort_of, task_of}
pub use Rattle.sm_syntax.specs.text.Spells.{Spells}
pub use Rattle.sm_task.specs.Tasks.{parts_of}
pub use Rattle.sm_eval.specs.StoredValues.{meaning}
pub use Rattle.sm_replay.proofs.ViolationsSound.{violation_conflicts}
pub use Rattle.sm_replay.specs.declared.verdict.Verdict.{Verdict}
pub use Rattle.sm_houdini.specs.Outcomes.{IsOutcome, Outcome}
pub use Rattle.sm_gen.specs.Generating.{generated}
pub use Rattle.sm_words.specs.Views.{asked_in}
pub use Rattle.sm_words.specs.Words.{Asked, IsUsage, Words, about, argument_text, asked, asked_by, asked_where, batch, check, check_by, effort_in, explain, gen, print, replay, suggest, task_file, trim, trim_by, unless, verb_of, verify, word_faults}
pub use Rattle.sm_words.specs.declared.effort.Effort.{Effort}
pub use Rattle.sm_why.specs.Reasons.{IsReason}
pub use Rattle.sm_answers.proofs.Answering.{accepted_passes, fault_not_accepted, stops_by}
pub use Rattle.sm_answers.proofs.Statuses.{IsOfCommand, IsToCommand, WritesNothing, answered_no_conflict, of_accepted, of_conflict, of_unknown, replay_to_command, same_as, verify_to_command, without_task}
pub use Rattle.sm_answers.specs.Exit.{ExitsWith}
pub use Rattle.sm_answers.specs.File.{GivesNoTask, GivesTask, file_limit}
pub use Rattle.sm_answers.specs.Lines.{input_line, summary_line, trial_line}
pub use Rattle.sm_answers.specs.Merges.{IsProved, IsSafeMerge, IsUnsafeMerge, IsViolatedFrom}
pub use Rattle.sm_answers.specs.Status.{Says}
pub use Rattle.sm_answers.specs.Verify.{AnswersProof, Verifies, rejected_line}
pub use Rattle.sm_answers.specs.declared.exit.Exit.{Exit}
pub use Rattle.sm_answers.specs.declared.status.Reply.{Reply}
pub use Rattle.sm_answers.specs.declared.status.Status.{Status}
pub use Rattle.sm_answers.specs.declared.status.Status.TheVariants.{Accepted, Conflict, Memory, ReadFault, Refused, SinkFault, Unknown, Usage, WriteFault}
pub use Rattle.sm_display.proofs.Begins.{begins_refused, begins_replayed, explain_to_command}
pub use Rattle.sm_display.specs.Print.{Prints, canonical_text}
pub use Rattle.sm_files.proofs.FilesLemmas.{counts_none, cut_in, ends_by, leaves_cut, leaves_front, leaves_same, leaves_whole, left_in, none_refused, one_spelled, same_ask, task_told}
pub use Rattle.sm_files.proofs.Trimmed.{trim_accepts, trim_to_command, trims_read}
pub use Rattle.sm_files.proofs.TrimmedFiles.{leaves_proof, trimmed_kept}
pub use Rattle.sm_files.specs.ProofFile.{HoldsProof, LeavesCut, LeavesFront, LeavesProof}
pub use Rattle.sm_files.specs.Views.{EndsWith}
pub use Rattle.sm_replies.proofs.SpelledLemmas.{is_spelled, outcome_one}
pub use Rattle.sm_replies.proofs.Statuses.{over_status, shown_status, suggest_to_command}
pub use Rattle.sm_replies.proofs.SuggestedSafe.{accepted_suggestion, suggested_where}
pub use Rattle.sm_replies.specs.Check.{AnswersCheck, IsInputText, SaysOutcome, ShowsFrom, reach_of}
pub use Rattle.sm_replies.specs.Gen.{AnswersGenInTime}
pub use Rattle.sm_replies.specs.Grounds.{IsShownBy, RestsOn}
pub use Rattle.sm_replies.specs.HeadlineBatch.{AcceptsSafe, AcceptsSafeRead}
pub use Rattle.sm_replies.specs.Suggest.{AnswersSuggest, IsSafeSuggestion, ProposesRead, SaysSuggestion, Suggests}
pub use Rattle.sm_commands.specs.Deeper.{AnswersDeeper, FailsToWrite, GoesBeyond, ShowsBeyond}
pub use Rattle.sm_commands.specs.Headline.{EndsWithInput, IsShownByInput, ShowsInput, merge_file}
pub use Rattle.sm_commands.specs.Readings.{AnswersByReads, ChecksRead}
pub use Rattle.sm_commands.specs.Top.{AnswersCommand, AnswersRequest, AsksToVerify, Checks, Files, Generates, IsAnswerTo, LeavesBy, LeavesFiles, LeavesPart, LeavesPartBy, Tells, TellsBy, WritesElsewhere}
pub use Rattle.sm_commands.specs.Why.{AnswersInTime, AnswersTask, AnswersWhy, SaysWhy}
