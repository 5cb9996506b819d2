-- What proofs of this crate name of definitions and of the lemmas of other crates.
pub use Rattle.std.proofs.Common.{Bool, Err, IfErr, IfOk, List, None, Ok, Option, Result, Some, [], ap, append-nil, append_assoc, arith, codes, false, if◌then◌else◌, inl, inr, length, pos, refl, rules, subst, suc, sym, take, true, zero, ℕ, ℤ, ⊎_elim, ◌++◌, ◌+◌, ◌-◌, ◌<◌, ◌==◌, ◌∙◌, ◌∷◌, ◌≡◌, ◌≢◌, ◌≤◌}
pub use Rattle.sm_io.specs.Files.{Known, untold}
pub use Rattle.sm_syntax.specs.claim.ConflictFree.{Copy, copy_of, program_of}
pub use Rattle.sm_syntax.specs.claim.Stores.{Array, Number, Store, Value}
pub use Rattle.sm_syntax.specs.declared.tree.Sort.{Sort}
pub use Rattle.sm_syntax.specs.text.Parts.{Parts, sort_of, task_of}
pub use Rattle.sm_syntax.specs.trees.Copies.{copy_named, number_of}
pub use Rattle.sm_text.specs.Tasks.{ProgramParts, program_parts}
pub use Rattle.sm_task.proofs.RefusalUnique.{one_refusal, task_or_refusal}
pub use Rattle.sm_task.specs.Tasks.{parts_of}
pub use Rattle.sm_task.specs.declared.error.TaskError.{TaskError}
pub use Rattle.sm_eval.specs.StoredValues.{meaning}
pub use Rattle.sm_replay.specs.declared.error.ReplayError.{ReplayError}
pub use Rattle.sm_replay.specs.declared.verdict.Verdict.{Verdict}
pub use Rattle.sm_explain.specs.Starts.{AreStartLines, AreValueLines, element_lines}
pub use Rattle.sm_answers.proofs.Replayed.{none_run, replayed_read, run_read}
pub use Rattle.sm_answers.proofs.Statuses.{IsToCommand, of_accepted, replay_to_command, same_as, without_task}
pub use Rattle.sm_answers.specs.File.{GivesTask}
pub use Rattle.sm_answers.specs.Replay.{AnswersReplay, ReplaysInput, verdict_status}
pub use Rattle.sm_answers.specs.declared.status.Status.{Status}
pub use Rattle.sm_answers.specs.declared.status.Status.TheVariants.{Accepted, Refused}
pub use Rattle.sm_display.specs.Explain.{Explains, ExplainsInput, ExplainsNoTask, ExplainsReplay, ExplainsRun, ShowsNoTask}
pub use Rattle.sm_display.specs.Shown.{ShowsEnds, ShowsOffset, ShowsRun, ShowsTokens, ends_text, misfit_of, offset_of, programs_text, start_heading}
