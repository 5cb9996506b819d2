-- What the answers of `trim` say.
use Rattle.sm_files.proofs.Imports.{◌≡◌, ◌≢◌, inl, inr, ℕ, List, sym, subst, ◌∙◌, arith, Known, WhereHeld, Read, Parts, task_of, Spells, Status, Accepted, Conflict, Unknown, Refused, Usage, ReadFault, Memory, SinkFault, WriteFault, fault_not_accepted, IsOfCommand, without_task, AnswersTrim, Trims, TrimsByReads, TrimsProof}
use Rattle.sm_check.proofs.SpelledCheckable.{spelled_checkable}
use Rattle.sm_proof.proofs.PassSound.{pass_free}
use Rattle.sm_syntax.specs.claim.ConflictFree.{ConflictFree}
use Rattle.sm_answers.specs.Merges.{IsProved, IsSafeMerge}
use Rattle.sm_answers.specs.ReadFiles.{ReadsTwo}

-- what every answer to `trim` says of its status
pub record IsToTrim (before now : ℕ) (status : Status) : Type 0 where
  pub of_command : IsOfCommand status
  pub not_conflict : status ≢ Conflict
  pub quiet : status ≢ ReadFault → now ≡ before

ended : (status wanted : Status) → status ≡ wanted → IsOfCommand wanted → wanted ≢ Conflict → (before now : ℕ) → now ≡ before →
    IsToTrim before now status
ended status wanted is of nor before now quiet = record {
  of_command = subst IsOfCommand (sym is) of;
  not_conflict = subst (λ (s : Status). s ≢ Conflict) (sym is) nor;
  quiet = λ h. quiet;
}

of_status : (status : Status) → status ≢ Usage → status ≢ Memory → status ≢ SinkFault → IsOfCommand status
of_status status a b c = record { not_usage = a; not_memory = b; not_sink = c }

answer_to_trim : (t : Parts) (bytes : List ℕ) (before now : ℕ) (status : Status) (text : List ℕ) → AnswersTrim t bytes status text →
    now ≡ before → IsToTrim before now status
answer_to_trim t bytes before now status text (inl h) quiet =
    ended status Refused h.says.ended (of_status Refused (λ e. cc) (λ e. cc) (λ e. cc)) (λ e. cc) before now quiet
answer_to_trim t bytes before now status text (inr (pass, inl h)) quiet =
    ended status Accepted h.says.ended (of_status Accepted (λ e. cc) (λ e. cc) (λ e. cc)) (λ e. cc) before now quiet
answer_to_trim t bytes before now status text (inr (pass, inr (inl h))) quiet =
    ended status Unknown h.ended (of_status Unknown (λ e. cc) (λ e. cc) (λ e. cc)) (λ e. cc) before now quiet
answer_to_trim t bytes before now status text (inr (pass, inr (inr h))) quiet =
    ended status WriteFault h.ended (of_status WriteFault (λ e. cc) (λ e. cc) (λ e. cc)) (λ e. cc) before now quiet

proof_to_trim : (t : Parts) (file : Known) (before now : ℕ) (status : Status) (text : List ℕ) → TrimsProof t file before now status text →
    IsToTrim before now status
proof_to_trim t file before now status text (inl (inl f)) =
    let is = f.says.ended in
    record {
      of_command = subst IsOfCommand (sym is) (of_status ReadFault (λ e. cc) (λ e. cc) (λ e. cc));
      not_conflict = λ e. cc;
      quiet = λ h. absurd (h is);
    }
proof_to_trim t file before now status text (inl (inr h)) =
    ended status Refused h.says.ended (of_status Refused (λ e. cc) (λ e. cc) (λ e. cc)) (λ e. cc) before now h.quiet
proof_to_trim t file before now status text (inr h) = answer_to_trim t h.bytes before now status text h.answers h.read.quiet

pub trim_to_command : (file proof : Known) (before now : ℕ) (status : Status) (text : List ℕ) → Trims file proof before now status text →
    IsToTrim before now status
trim_to_command file proof before now status text (inl f) =
    let none = without_task file before now status text f in
    record {
      of_command = none.to_command.of_command.of_command;
      not_conflict = none.not_conflict;
      quiet = none.to_command.quiet;
    }
trim_to_command file proof before now status text (inr c) =
    let to = proof_to_trim c.task proof c.between now status text c.answers in
    record { of_command = to.of_command; not_conflict = to.not_conflict; quiet = λ h. to.quiet h ∙ c.gives.read.quiet }

-- a proof that is trimmed passes, so its task is free of conflicts
trim_free : (t : Parts) (source : List ℕ) → Spells source t → (file : Known) (before now : ℕ) (status : Status) (text : List ℕ) →
    TrimsProof t file before now status text → status ≡ Accepted → ConflictFree (task_of t)
trim_free t source spells file before now status text (inl (inl f)) e = absurd (fault_not_accepted status f.says.ended e)
trim_free t source spells file before now status text (inl (inr h)) e = let is = h.says.ended in cc
trim_free t source spells file before now status text (inr h) e = of h.answers
  where
    of : AnswersTrim t h.bytes status text → ConflictFree (task_of t)
    of (inl r) = let is = r.says.ended in cc
    of (inr p) = pass_free t h.bytes (spelled_checkable source t spells).sorted p.0

pub trim_accepts : (file proof : Known) (before now : ℕ) (status : Status) (text : List ℕ) → Trims file proof before now status text →
    status ≡ Accepted → WhereHeld file IsSafeMerge
trim_accepts file proof before now status text (inl f) e bytes told =
    absurd ((without_task file before now status text f).not_accepted e)
trim_accepts file proof before now status text (inr c) e bytes told = (
  c.task,
  subst (λ (b : List ℕ). Spells b c.task) (sym (c.gives.read.held bytes told)) c.gives.spells,
  trim_free c.task c.gives.bytes c.gives.spells proof c.between now status text c.answers e,
)

-- by what was read
pub trims_read : (task proof : List ℕ) (before now : List Read) (status : Status) (text : List ℕ) →
    TrimsByReads task proof before now status text → status ≡ Accepted →
    ReadsTwo task proof before now (λ (bytes lines : List ℕ). IsSafeMerge bytes × IsProved bytes lines)
trims_read task proof before now status text a e =
    let v = a e in (
      v.3.bytes,
      v.2,
      v.1,
      v.3.read,
      v.4,
      (
        (v.0, v.3.spells, pass_free v.0 v.2 (spelled_checkable v.3.bytes v.0 v.3.spells).sorted v.5),
        record { parts = v.0; spells = v.3.spells; passes = v.5; short = v.3.short; fits = omega (arith, v.6) },
      ),
    )
