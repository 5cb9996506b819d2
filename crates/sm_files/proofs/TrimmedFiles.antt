-- What `trim` leaves in the files.
use Rattle.sm_files.proofs.Imports.{◌≡◌, ◌≢◌, ◌⊎◌, inl, inr, ℕ, List, Result, Ok, Err, IfOk, sym, subst, ◌∙◌, HasCause, Rose, Known, emptied, longer, Passes, subject_of, HasUsedLines, Parts, HasVersion, Says, Reply, Status, Accepted, WriteFault, HoldsProof, IsTaskIn, LeavesProof, LeftBy, HoldsTrimmed, LeavesTrimmed, LeftTrimmed, TellsOfTask, TellsTrimmed, line_count, trimmed_line}
use Rattle.std.proofs.Common.{codes}
use Rattle.std.specs.declared.alloc.AllocError.{AllocError}

-- ---- a trimmed proof is one that `check` might leave

pub trimmed_proof : (t : Parts) (before now : Known) → HoldsTrimmed t before now → HoldsProof t before now
trimmed_proof t before now h = record { proof = h.proof; passes = h.passes; version = h.version; holds = h.holds }

left_proof : (t : Parts) (s : Status) (before now : Known) → LeftTrimmed t s before now → LeftBy t s before now
left_proof t s before now (inl h) = inl (h.0, trimmed_proof t before now h.1)
left_proof t s before now (inr h) = inr h

pub leaves_proof : (file : Known) (s : Status) (before now : Known) → LeavesTrimmed file s before now → LeavesProof file s before now
leaves_proof file s before now (inl h) = inl h
leaves_proof file s before now (inr h) = inr (h.0, h.1, left_proof h.0 s before now h.2)

-- ---- what is written

-- once the trimmed proof was to be written, the answer tells how many lines it has
pub put_told : (t : Parts) (bytes lean : List ℕ) (s : Status) (l : List ℕ) (old new : Known) (Q : Type 0) (r : Result Reply AllocError) →
    Passes t lean → HasVersion t lean → HasUsedLines (subject_of t) lean → l ≡ trimmed_line (line_count bytes) (line_count lean) →
    IfOk r (λ (u : Reply). (Says s l u.status u.text.items × (new ≡ longer (emptied old) lean))
    ⊎ (Says WriteFault (codes "WriteFault\n") u.status u.text.items × Q)) →
    IfOk r (λ (u : Reply). u.status ≡ Accepted → TellsTrimmed t u.text.items old new)
put_told t bytes lean s l old new Q (Ok u) passes dated used is (inl h) = λ e. record {
  held = record { proof = lean; passes = passes; version = dated; used = used; holds = h.1 };
  lines = line_count bytes;
  told = h.0.printed ∙ is;
}
put_told t bytes lean s l old new Q (Ok u) passes dated used is (inr h) =
    λ e. absurd (let both : WriteFault ≡ Accepted = sym h.0.ended ∙ e in cc)
put_told t bytes lean s l old new Q (Err error) passes dated used is h = tt

-- ---- one task

-- what is left by the answer to the task of a file
pub trimmed_in : (file old mid new : Known) (t : Parts) (s : Status) → IsTaskIn file t → mid ≡ old → LeftTrimmed t s mid new →
    LeavesTrimmed file s old new
trimmed_in file old mid new t s is same left = inr (t, is, subst (λ (k : Known). LeftTrimmed t s k new) same left)

-- where the output fails and nothing kept the proof from being written, it is as it was or has it
pub trimmed_kept : (file : Known) (before now : ℕ) (s : Status) (old new : Known) → (¬ Rose before now) →
    HasCause before now (s ≡ WriteFault) → LeavesTrimmed file s old new →
    (new ≡ old) ⊎ ((t : Parts) × IsTaskIn file t × HoldsTrimmed t old new)
trimmed_kept file before now s old new quiet cause (inl h) = inl h.1
trimmed_kept file before now s old new quiet cause (inr (t, is, inl h)) = inr (t, is, h.1)
trimmed_kept file before now s old new quiet cause (inr (t, is, inr (inl h))) = absurd (quiet (cause.rose h.0))
trimmed_kept file before now s old new quiet cause (inr (t, is, inr (inr h))) = inl h.1

-- of another status nothing is told
pub none_told : (file : Known) (s : Status) (text : List ℕ) (old new : Known) → s ≢ Accepted → TellsOfTask file s text old new
none_told file s text old new never = λ e. absurd (never e)
