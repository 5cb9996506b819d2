-- What proofs of this crate name of definitions and of the lemmas of other crates.
pub use Rattle.std.proofs.Common.{Bool, Err, IfErr, IfOk, IfSome, List, Ok, Option, Result, Some, [], ap, arith, cond, count_by, false, if◌then◌else◌, inl, inr, length, refl, rules, subst, sym, true, ℕ, ◌+◌, ◌<◌, ◌==◌, ◌∙◌, ◌∷◌, ◌≡◌, ◌≢◌, ◌≤◌, ◌⊎◌}
pub use Rattle.sm_io.specs.Causes.{HasCause, Rose}
pub use Rattle.sm_io.specs.Files.{Known, WhereHeld, absent, emptied, holds, longer}
pub use Rattle.sm_io.specs.Reads.{Read, ReadsWhole}
pub use Rattle.sm_syntax.specs.text.Parts.{Parts, task_of}
pub use Rattle.sm_syntax.specs.text.Spells.{Spells}
pub use Rattle.sm_task.specs.Tasks.{parts_of}
pub use Rattle.sm_proof.specs.Verdicts.{FileLines, Passes, in_first_line, lines_in, subject_of}
pub use Rattle.sm_prune.specs.UsedLines.{HasUsedLines}
pub use Rattle.sm_write.specs.Versions.{HasVersion}
pub use Rattle.sm_answers.proofs.Answering.{fault_not_accepted, stops_by}
pub use Rattle.sm_answers.proofs.Statuses.{IsOfCommand, without_task}
pub use Rattle.sm_answers.specs.Exit.{ExitsWith}
pub use Rattle.sm_answers.specs.File.{GivesNoTask, GivesTask, file_limit}
pub use Rattle.sm_answers.specs.Status.{Says}
pub use Rattle.sm_answers.specs.declared.exit.Exit.{Exit}
pub use Rattle.sm_answers.specs.declared.status.Reply.{Reply}
pub use Rattle.sm_answers.specs.declared.status.Status.{Status}
pub use Rattle.sm_answers.specs.declared.status.Status.TheVariants.{Accepted, Conflict, Memory, ReadFault, Refused, SinkFault, Unknown, Usage, WriteFault}
pub use Rattle.sm_files.specs.ProofFile.{HoldsFront, HoldsProof, IsTaskIn, LeavesCut, LeavesFront, LeavesProof, LeftBy, LeftCut}
pub use Rattle.sm_files.specs.Trim.{AnswersTrim, HoldsTrimmed, IsProofRead, LeavesTrimmed, LeftTrimmed, TellsOfTask, TellsTrimmed, Trims, TrimsByReads, TrimsProof, line_count, trim_limit, trimmed_line}
pub use Rattle.sm_files.specs.Views.{CountsWrites, EndsWith}
