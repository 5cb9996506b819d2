-- Which statuses the answers have that need no search.
use Rattle.sm_answers.proofs.Imports.{◌≡◌, ◌≢◌, inl, inr, ℕ, List, Result, Ok, Err, sym, ap, subst, ◌∙◌, FileAnswer, Judged, OverLong, Known, Word, ReplayError, Parts, Verifies, answer_line, answer_status, rejected_line, AnswersProof, GivesNoTask, Conflict, Unknown, Usage, Memory, SinkFault, WriteFault, verdict_status, GivesNoInput, Replays, ReplaysInput, Says}
use Rattle.sm_proof.specs.Verdicts as proof
use Rattle.sm_replay.specs.declared.verdict.Verdict.{Verdict}
use Rattle.sm_replay.specs.declared.verdict.Verdict.TheVariants as verdict
use Rattle.sm_answers.specs.File.{Status, Accepted, Refused, ReadFault}

-- a command answers with none of these
pub record IsOfCommand (status : Status) : Type 0 where
  pub not_usage : status ≢ Usage
  pub not_memory : status ≢ Memory
  pub not_sink : status ≢ SinkFault

-- a command but `check` answers with none of these: Usage, Memory, SinkFault, WriteFault
pub record WritesNothing (status : Status) : Type 0 where
  pub of_command : IsOfCommand status
  pub not_write : status ≢ WriteFault

pub of_accepted : WritesNothing Accepted
of_accepted = record { of_command = record { not_usage = λ e. cc; not_memory = λ e. cc; not_sink = λ e. cc }; not_write = λ e. cc }

pub of_conflict : WritesNothing Conflict
of_conflict = record { of_command = record { not_usage = λ e. cc; not_memory = λ e. cc; not_sink = λ e. cc }; not_write = λ e. cc }

pub of_unknown : WritesNothing Unknown
of_unknown = record { of_command = record { not_usage = λ e. cc; not_memory = λ e. cc; not_sink = λ e. cc }; not_write = λ e. cc }

pub of_refused : WritesNothing Refused
of_refused = record { of_command = record { not_usage = λ e. cc; not_memory = λ e. cc; not_sink = λ e. cc }; not_write = λ e. cc }

pub of_fault : WritesNothing ReadFault
of_fault = record { of_command = record { not_usage = λ e. cc; not_memory = λ e. cc; not_sink = λ e. cc }; not_write = λ e. cc }

-- a status that equals one with which a command but `check` answers is such a status
pub same_as : (status wanted : Status) → status ≡ wanted → WritesNothing wanted → WritesNothing status
same_as status wanted is of = subst WritesNothing (sym is) of

-- what every answer to what a command asks for says of its status
pub record IsToCommand (before now : ℕ) (status : Status) : Type 0 where
  pub of_command : WritesNothing status
  pub quiet : status ≢ ReadFault → now ≡ before

-- what an answer to `verify` says of its status, where a bad line behind a failed read may be named
pub record IsToVerify (before now : ℕ) (status : Status) (text : List ℕ) : Type 0 where
  pub of_command : WritesNothing status
  pub quiet : status ≢ ReadFault → ((n : ℕ) (word : Word) → Says Refused (rejected_line n word) status text → ⊥) → now ≡ before

-- an answer on a file that gives no task isn't Accepted either
pub record IsWithoutTask (before now : ℕ) (status : Status) : Type 0 where
  pub not_accepted : status ≢ Accepted
  pub not_conflict : status ≢ Conflict
  pub to_command : IsToCommand before now status

pub without_task : (file : Known) (before now : ℕ) (status : Status) (text : List ℕ) → GivesNoTask file before now status text
    → IsWithoutTask before now status
without_task file before now status text (inl (inl f)) =
    let is = f.says.ended in
    record {
      not_accepted =
          λ e. cc;
      not_conflict = λ e. cc;
      to_command = record { of_command = same_as status ReadFault is of_fault; quiet = λ h. absurd (h is) };
    }
without_task file before now status text (inl (inr f)) =
    let is = f.says.ended in
    record {
      not_accepted =
          λ e. cc;
      not_conflict = λ e. cc;
      to_command = record { of_command = same_as status Refused is of_refused; quiet = λ h. f.quiet };
    }
without_task file before now status text (inr f) =
    let is = f.refuses.says.ended in
    record {
      not_accepted =
          λ e. cc;
      not_conflict = λ e. cc;
      to_command = record { of_command = same_as status Refused is of_refused; quiet = λ h. f.read.quiet };
    }

no_input_to_command : (t : Parts) (file : Known) (before now : ℕ) (status : Status) (text : List ℕ)
    → GivesNoInput t file before now status text → IsToCommand before now status
no_input_to_command t file before now status text (inl (inl f)) =
    record { of_command = same_as status ReadFault f.says.ended of_fault; quiet = λ h. absurd (h f.says.ended) }
no_input_to_command t file before now status text (inl (inr f)) =
    record { of_command = same_as status Refused f.says.ended of_refused; quiet = λ h. f.quiet }
no_input_to_command t file before now status text (inr f) =
    record { of_command = same_as status Refused f.refuses.says.ended of_refused; quiet = λ h. f.read.quiet }

judged_status : (r : Result Verdict ReplayError) → WritesNothing (verdict_status r)
judged_status (Ok verdict.Holds) = of_accepted
judged_status (Ok verdict.Unmet) = of_unknown
judged_status (Ok (verdict.Violates x i clause)) = of_conflict
judged_status (Err x) = of_unknown

pub store_to_command : (t : Parts) (file : Known) (turns before now : ℕ) (status : Status) (text : List ℕ)
    → ReplaysInput t file turns before now status text → IsToCommand before now status
store_to_command t file turns before now status text (inl f) = no_input_to_command t file before now status text f
store_to_command t file turns before now status text (inr c) = record {
  of_command = same_as status (verdict_status c.answers.verdict) c.answers.says.ended (judged_status c.answers.verdict);
  quiet = λ h. c.gives.read.quiet;
}

pub replay_to_command : (file input : Known) (turns before now : ℕ) (status : Status) (text : List ℕ)
    → Replays file input turns before now status text → IsToCommand before now status
replay_to_command file input turns before now status text (inl f) = (without_task file before now status text f).to_command
replay_to_command file input turns before now status text (inr c) =
    let to = store_to_command c.task input turns c.between now status text c.answers in
    record { of_command = to.of_command; quiet = λ h. to.quiet h ∙ c.gives.read.quiet }

answered_status : (a : FileAnswer) → WritesNothing (answer_status a)
answered_status (Judged proof.Pass) = of_accepted
answered_status (Judged (proof.Rejected line word)) = of_refused
answered_status OverLong = of_refused

-- no proof file is answered by Conflict
pub answered_no_conflict : (a : FileAnswer) → answer_status a ≢ Conflict
answered_no_conflict (Judged proof.Pass) e = cc
answered_no_conflict (Judged (proof.Rejected line word)) e = cc
answered_no_conflict OverLong e = cc

proof_to_command : (t : Parts) (file : Known) (before now : ℕ) (status : Status) (text : List ℕ)
    → AnswersProof t file before now status text → IsToVerify before now status text
proof_to_command t file before now status text (inl f) =
    record { of_command = same_as status ReadFault f.says.ended of_fault; quiet = λ h other. absurd (h f.says.ended) }
proof_to_command t file before now status text (inr c) = record {
  of_command = same_as status (answer_status c.answer) c.says.ended (answered_status c.answer);
  quiet = λ h other.
      c.quiet
      (λ n word is. other n word (record { ended = c.says.ended ∙ ap answer_status is; printed = c.says.printed ∙ ap answer_line is }));
}

pub verify_to_command : (file proof : Known) (before now : ℕ) (status : Status) (text : List ℕ)
    → Verifies file proof before now status text → IsToVerify before now status text
verify_to_command file proof before now status text (inl f) =
    let to = (without_task file before now status text f).to_command in
    record { of_command = to.of_command; quiet = λ h other. to.quiet h }
verify_to_command file proof before now status text (inr c) =
    let to = proof_to_command c.task proof c.between now status text c.answers in
    record { of_command = to.of_command; quiet = λ h other. to.quiet h other ∙ c.gives.read.quiet }
