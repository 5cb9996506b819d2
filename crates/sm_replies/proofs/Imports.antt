-- What proofs of this crate name of definitions and of the lemmas of other crates.
pub use Rattle.std.proofs.Common.{All, Bool, Err, Global, IfNone, List, None, Ok, Option, Some, Vec, [], ap, append-nil, append_assoc, arith, codes, decimal, drop, false, get_or, if◌then◌else◌, inl, inr, length, map, of_z, option_map, refl, rules, slice_get, subst, suc, sym, take, to_z, true, zero, ℕ, ℤ, ◌++◌, ◌+◌, ◌<◌, ◌==◌, ◌^◌, ◌∙◌, ◌∷◌, ◌≡◌, ◌≢◌, ◌≤◌, ◌⊎◌}
pub use Rattle.std.proofs.lemmas.List.{map-append, take_more}
pub use Rattle.std.proofs.lemmas.List.Elements.{All-push, Contains-append_left, Contains-append_right}
pub use Rattle.std.specs.Fmt.{signed_decimal}
pub use Rattle.std.specs.List.{AllZip}
pub use Rattle.std.specs.Prelude.{Contains, IsSome, String, ◌↔◌}
pub use Rattle.std.specs.String.{string_bytes}
pub use Rattle.std.specs.declared.alloc.AllocError.{AllocError}
pub use Rattle.sm_io.specs.Causes.{Rose}
pub use Rattle.sm_io.specs.Files.{Known, WhereHeld, absent, untold}
pub use Rattle.sm_io.specs.Reads.{Read}
pub use Rattle.sm_syntax.specs.claim.ConflictFree.{ConflictFree}
pub use Rattle.sm_syntax.specs.claim.Stores.{Store}
pub use Rattle.sm_syntax.specs.text.Parts.{Parts, sort_of, task_of}
pub use Rattle.sm_syntax.specs.text.Spells.{Spells}
pub use Rattle.sm_text.specs.declared.task.Task.{Task}
pub use Rattle.sm_text.specs.printing.Named.{HasText}
pub use Rattle.sm_replay.specs.InputText.{AreNamed, AreWritten}
pub use Rattle.sm_replay.specs.Trials.{IsLeast, trial}
pub use Rattle.sm_replay.specs.declared.verdict.Verdict.{Verdict}
pub use Rattle.sm_check.specs.LineEnds.{HasNoEnd}
pub use Rattle.sm_houdini.specs.Outcomes.{IsOutcome}
pub use Rattle.sm_houdini.specs.Views.{outcome_in}
pub use Rattle.sm_suggest.specs.Combinations.{choices, combination, hole_count}
pub use Rattle.sm_suggest.specs.First.{AllRefused, IsFirst, MayAnswer}
pub use Rattle.sm_words.specs.declared.effort.Effort.{Effort}
pub use Rattle.sm_why.specs.declared.stop.Manner.TheVariants.{Open, Steps}
pub use Rattle.sm_why.specs.declared.stop.Stop.{Stop}
pub use Rattle.sm_why.specs.declared.stop.Stop.TheVariants.{Goal, TooMany}
pub use Rattle.sm_answers.proofs.AnswerUnique.{Same, not_there, refused_same, says_same, task_or_none, task_same}
pub use Rattle.sm_answers.proofs.Answering.{stops_by}
pub use Rattle.sm_answers.proofs.ListUnique.{bad_number, few_names, list_or_none, list_same, no_list_same}
pub use Rattle.sm_answers.proofs.Statuses.{IsToCommand, WritesNothing, of_accepted, of_conflict, of_fault, of_refused, of_unknown, same_as, without_task}
pub use Rattle.sm_answers.specs.File.{FailsToRead, GivesNoTask, GivesTask}
pub use Rattle.sm_answers.specs.Lines.{goal_line, input_line, none_line, op_word, refusal_line, suggestion_line, too_many_line, trial_line}
pub use Rattle.sm_answers.specs.Lists.{GivesList, GivesNoList, ReadsList, bad_list_line, names_in}
pub use Rattle.sm_answers.specs.Merges.{IsSafeMerge}
pub use Rattle.sm_answers.specs.ReadFiles.{GoesOn, ReadsAmong}
pub use Rattle.sm_answers.specs.Status.{Says}
pub use Rattle.sm_answers.specs.declared.status.Reply.{Reply}
pub use Rattle.sm_answers.specs.declared.status.Status.{Status}
pub use Rattle.sm_answers.specs.declared.status.Status.TheVariants.{Accepted, Conflict, ReadFault, Refused, Unknown}
pub use Rattle.sm_replies.specs.Batch.{AnswersAll, AnswersFile, Batches, FailsToReadOne, IsLineOf, Line, first_line, has_status, numbered, status_of_all}
pub use Rattle.sm_replies.specs.BatchSteps.{AreGiven, AreLinesRead, GivesNext, IsAcceptedBy, IsAnswered, IsGiven, IsLineRead, IsNone, IsTheReply, RepliesTo, alone, line_in, lines_of, statuses, texts, told, told_status}
pub use Rattle.sm_replies.specs.Check.{AnswersCheck, IsInputText, IsNote, SaysNoted, SaysOutcome, ShowsFrom, ShowsTrial, reach_of}
pub use Rattle.sm_replies.specs.Grounds.{IsShownBy, RestsOn, stop_in}
pub use Rattle.sm_replies.specs.HeadlineBatch.{AcceptsSafe, AcceptsSafeRead, HasAccepted}
pub use Rattle.sm_replies.specs.Seconds.{RunsOut}
pub use Rattle.sm_replies.specs.Suggest.{AnswersSuggest, Decides, IsSafeSuggestion, ProposesRead, SaysSuggestion, Suggests, is_accepted}
pub use Rattle.sm_replies.specs.Undecided.{IsUndecided}
pub use Rattle.sm_replies.specs.Views.{ComesWith, verdict_at}
pub use Rattle.sm_replies.specs.declared.ground.Ground.{Ground}
pub use Rattle.sm_replies.specs.declared.ground.Ground.TheVariants.{Input, Proved, Stopped}
