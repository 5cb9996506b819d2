-- The answers of `trim` to what was read.
use Rattle.sm_files.proofs.Imports.{◌≡◌, ◌≤◌, inl, inr, ℕ, List, length, Result, Err, sym, subst, Known, Read, ReadsWhole, Passes, Parts, ExitsWith, Exit, GivesNoTask, GivesTask, Status, Accepted, Reply, stops_by, without_task, LeavesFront, AnswersTrim, IsProofRead, LeavesTrimmed, Trims, TrimsByReads, trim_limit, EndsWith}
use Rattle.sm_answers.specs.Readings.{ReadsTask}
use Rattle.sm_answers.specs.declared.exit.Exit.TheVariants as stopped

-- ---- a proof's file that gives no bytes

-- ---- the answer

-- bytes of a proof's file were read behind a task, and answered
pub trims_read_proof : (file proof other : Known) (before between mid now : ℕ) (t : Parts) (bytes : List ℕ) (s : Status) (text : List ℕ) →
    GivesTask file before between t → other ≡ proof → IsProofRead other between mid bytes → now ≡ mid → AnswersTrim t bytes s text →
    Trims file proof before now s text
trims_read_proof file proof other before between mid now t bytes s text gives same read quiet a =
    inr (record {
      task = t;
      between = between;
      gives = gives;
      answers = inr (record {
        bytes = bytes;
        read =
            subst (λ (k : Known). IsProofRead k between now bytes) same
            (subst (λ (n : ℕ). IsProofRead other between n bytes) (sym quiet) read);
        answers = a;
      });
    })

-- ---- what was read

-- what is answered by Accepted passes
pub trims_passing : (t : Parts) (bytes : List ℕ) (s : Status) (text : List ℕ) → AnswersTrim t bytes s text → s ≡ Accepted → Passes t bytes
trims_passing t bytes s text (inl r) e = let is = r.says.ended in cc
trims_passing t bytes s text (inr p) e = p.0

pub trims_by_reads : (name proof : List ℕ) (before between mid now : List Read) (t : Parts) (bytes : List ℕ) (s : Status)
    (text : List ℕ) → ReadsTask name before between t → ReadsWhole proof between mid bytes → now ≡ mid → length bytes ≤ trim_limit →
    AnswersTrim t bytes s text → TrimsByReads name proof before now s text
trims_by_reads name proof before between mid now t bytes s text task whole same fits a = λ e. (
  t,
  between,
  bytes,
  task,
  subst (λ (rs : List Read). ReadsWhole proof between rs bytes) (sym same) whole,
  trims_passing t bytes s text a e,
  fits,
)

-- no task was given, or no proof
pub none_trimmed : (name proof : List ℕ) (before now : List Read) (file : Known) (b n : ℕ) (stop : Exit) →
    ExitsWith (GivesNoTask file b n) stop → ExitsWith (TrimsByReads name proof before now) stop
none_trimmed name proof before now file b n =
    stops_by (GivesNoTask file b n) (TrimsByReads name proof before now)
    (λ s text none e. absurd ((without_task file b n s text none).not_accepted e))

-- ---- what is told

-- ---- what is left

-- where no task was given, neither
pub none_left : (file : Known) (b n : ℕ) (old new : Known) → new ≡ old → (stop : Exit) → ExitsWith (GivesNoTask file b n) stop →
    (let r : Result Reply Exit = Err stop in EndsWith (λ (s : Status). LeavesTrimmed file s old new) (LeavesFront file old new) r)
none_left file b n old new same (stopped.Answer r) h = inl ((without_task file b n r.status r.text.items h).not_accepted, same)
none_left file b n old new same stopped.Memory h = inl same

-- ---- the bytes of a proof that passes
