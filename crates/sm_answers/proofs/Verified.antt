-- The verdict on a proof file that passes, and the answer that it is.
use Rattle.sm_answers.proofs.Imports.{◌≡◌, ◌≢◌, ◌≤◌, ◌⊎◌, inl, inr, ℕ, Bool, true, false, if◌then◌else◌, List, length, Result, Ok, Err, refl, sym, ap, ◌∙◌, leb-true, le-leb, Judged, OverLong, TellsAnswer, cut_answer, file_answer, verdict_of, Checked, CheckError, Rose, Known, absent, holds, WhereHeld, Pass, Rejected, Reached, Before, Unopened, reached, lines_in, verdict, subject_of, Passes, Word, ConflictFree, Parts, task_of, answer_status, proof_limit, AnswersProof, SaysChecked}
use Rattle.std.specs.Prelude.{nat_le, take}
use Rattle.sm_check.specs.declared.verifying.CheckError.TheVariants as check
use Rattle.sm_check.specs.declared.verifying.Checked.TheVariants as checked
use Rattle.sm_check.specs.ReadFaults.{HasFaultCause, NamesBadLine}
use Rattle.sm_proof.specs.Verdicts.{Verdict, Refused}
use Rattle.sm_answers.specs.declared.status.Status.{Status}
use Rattle.sm_answers.specs.declared.status.Status.TheVariants.{Accepted, ReadFault}
use Rattle.sm_answers.proofs.Answering.{accepted_passes, fault_not_accepted}

same_verdict : (v w : Verdict) → Judged v ≡ Judged w → v ≡ w
same_verdict v w e = cc

-- an answer that passes is that of the whole file
whole_passes : (fits : Bool) (v : Verdict) (r : Reached) → (if fits then Judged v else cut_answer r) ≡ Judged Pass
    → (fits ≡ true) × (v ≡ Pass)
whole_passes true v r e = (refl, same_verdict v Pass e)
whole_passes false v (Refused n w) e = cc
whole_passes false v (Before n standing) e = cc

-- the bytes pass within the limit
pub passing_fits : (t : Parts) (bytes : List ℕ) → file_answer proof_limit (subject_of t) bytes ≡ Judged Pass
    → (length bytes ≤ proof_limit) × Passes t bytes
passing_fits t bytes e =
    let both =
    whole_passes (nat_le (length bytes) proof_limit) (verdict (subject_of t) bytes)
    (reached (subject_of t) 1 Unopened (lines_in (take proof_limit bytes)).ended) e in
    (leb-true (length bytes) proof_limit both.0, both.1)

-- bytes that pass within the limit are judged to pass
pub fitting_passes : (t : Parts) (bytes : List ℕ) → length bytes ≤ proof_limit → Passes t bytes
    → file_answer proof_limit (subject_of t) bytes ≡ Judged Pass
fitting_passes t bytes fits passes =
    let cut = cut_answer (reached (subject_of t) 1 Unopened (lines_in (take proof_limit bytes)).ended) in
    ap (λ (b : Bool). if b then Judged (verdict (subject_of t) bytes) else cut) (le-leb (length bytes) proof_limit fits)
    ∙ ap Judged passes

-- a file that passes is accepted
pub passing_accepted : (t : Parts) (file : Known) (before now : ℕ) (status : Status) (line lines : List ℕ)
    → AnswersProof t file before now status line → status ≢ ReadFault → file ≡ holds lines → length lines ≤ proof_limit
    → Passes t lines → status ≡ Accepted
passing_accepted t file before now status line lines (inl f) no_fault told fits passes = absurd (no_fault f.says.ended)
passing_accepted t file before now status line lines (inr j) no_fault told fits passes =
    j.says.ended ∙ ap answer_status (sym (j.held lines told) ∙ fitting_passes t lines fits passes)

-- a file that is accepted passes within the limit
pub accepted_passing : (t : Parts) (file : Known) (before now : ℕ) (status : Status) (line lines : List ℕ)
    → AnswersProof t file before now status line → status ≡ Accepted → file ≡ holds lines
    → (length lines ≤ proof_limit) × Passes t lines
accepted_passing t file before now status line lines (inl f) e told = absurd (fault_not_accepted status f.says.ended e)
accepted_passing t file before now status line lines (inr j) e told =
    passing_fits t lines (j.held lines told ∙ accepted_passes j.answer (sym j.says.ended ∙ e))

abbrev checked_ok : Checked → Result Checked CheckError
checked_ok c = Ok c

abbrev checked_err : CheckError → Result Checked CheckError
checked_err e = Err e

-- a verdict is neither a fault nor want of memory, and too many bytes aren't either
no_verdict : (c : Checked) → (checked_ok c ≡ Err check.ReadFault) ⊎ (checked_ok c ≡ Err check.Memory) → ⊥
no_verdict c (inl e) = cc
no_verdict c (inr e) = cc

not_long : (checked_err check.TooLong ≡ Err check.ReadFault) ⊎ (checked_err check.TooLong ≡ Err check.Memory) → ⊥
not_long (inl e) = cc
not_long (inr e) = cc

-- the verdict that the file passes is that one
pass_is : (c : Checked) → Judged (verdict_of c) ≡ Judged Pass → c ≡ checked.Pass
pass_is checked.Pass e = refl
pass_is (checked.Rejected n word) e = cc

over_fails : OverLong ≡ Judged Pass → ⊥
over_fails e = cc

-- what the checker promises of a file
pub record IsChecked (t : Parts) (file : Known) (before now : ℕ) (r : Result Checked CheckError) : Type 0 where
  pub answer : WhereHeld file (λ (bytes : List ℕ). TellsAnswer r (file_answer proof_limit (subject_of t) bytes))
  pub gone : file ≡ absent → (r ≡ Err check.ReadFault) ⊎ (r ≡ Err check.Memory)
  pub sound : r ≡ Ok checked.Pass → ConflictFree (task_of t)
  pub cause : HasFaultCause file before now r

-- the bad line that is named is in the answer
in_answer : (c : Checked) → NamesBadLine (Ok c) → ((n : ℕ) (word : Word) → Judged (verdict_of c) ≢ Judged (Rejected n word)) → ⊥
in_answer checked.Pass bad none = bad
in_answer (checked.Rejected n word) bad none = none n word refl

-- the reply to it is the answer to the file
pub judged : (t : Parts) (file : Known) (before now : ℕ) (r : Result Checked CheckError) (status : Status) (line : List ℕ)
    → IsChecked t file before now r → SaysChecked r status line → AnswersProof t file before now status line
judged t file before now (Ok c) status line is says = inr (record {
  answer = Judged (verdict_of c);
  there = λ a. no_verdict c (is.gone a);
  later = is.cause.later;
  quiet = λ none. is.cause.quiet (λ e. no_verdict c (inl e)) (λ bad. in_answer c bad none);
  held = is.answer;
  free = λ passes. is.sound (ap checked_ok (pass_is c passes));
  says = says;
})
judged t file before now (Err check.TooLong) status line is says = inr (record {
  answer = OverLong;
  there = λ a. not_long (is.gone a);
  later = is.cause.later;
  quiet = λ none. is.cause.quiet (λ e. not_long (inl e)) (λ bad. bad);
  held = is.answer;
  free = λ passes. absurd (over_fails passes);
  says = says;
})
judged t file before now (Err check.ReadFault) status line is says = inl (record { cause = go (is.cause.rose refl); says = says })
  where
    go : Rose before now ⊎ ((file ≡ absent) × (now ≡ before)) → Rose before now ⊎ (file ≡ absent)
    go (inl rose) = inl rose
    go (inr gone) = inr gone.0
judged t file before now (Err check.Memory) status line is says = absurd says
