-- Accepted of `verify` stands exactly where a task was read, and then a proof that passes for it.
use Rattle.sm_answers.proofs.Imports.{◌≡◌, ◌≤◌, ◌⊎◌, inl, inr, ℕ, List, [], ◌∷◌, length, Result, Ok, Err, IfOk, IfErr, refl, sym, ap, subst, ◌∙◌, Judged, file_answer, Checked, CheckError, Known, Read, ReadsOn, ReadsWhole, Pass, Passes, subject_of, ConflictFree, Parts, task_of, Spells, ExitsWith, Exit, GivesNoTask, PassesRead, ReadsOnce, ReadsProof, ReadsTask, VerifiesRead, answer_status, proof_limit, SaysChecked, Reply}
use Rattle.sm_check.specs.FilesRead.{AnswersRead}
use Rattle.sm_check.specs.declared.verifying.CheckError.TheVariants as check
use Rattle.sm_check.specs.declared.verifying.Checked.TheVariants as checked
use Rattle.sm_text.proofs.Complete.Tasks as text
use Rattle.sm_answers.specs.File.{Status, Accepted}
use Rattle.sm_answers.proofs.Answering.{result_by, stops_by}
use Rattle.sm_answers.proofs.Statuses.{without_task}
use Rattle.sm_answers.proofs.ReadsUnique.{HasPasses, same_passes, unended, ended_first, ended_alone}
use Rattle.sm_answers.proofs.Verified.{fitting_passes, passing_fits}

-- how many passes went to their ends, and which
none_is_some : (x : List ℕ) (xs : List (List ℕ)) → (let none : List (List ℕ) = [] in none) ≡ x ∷ xs → ⊥
none_is_some x xs e = cc

one_is_two : (w x y : List ℕ) → w ∷ [] ≡ x ∷ y ∷ [] → ⊥
one_is_two w x y e = cc

same_one : (x y : List ℕ) → x ∷ [] ≡ y ∷ [] → x ≡ y
same_one x y e = cc

same_two : (v w x y : List ℕ) → v ∷ w ∷ [] ≡ x ∷ y ∷ [] → (v ≡ x) × (w ≡ y)
same_two v w x y e = (cc, cc)

-- a task that was read, and then a proof, are two passes
two_passes : (name proof : List ℕ) (before between now : List Read) (t u : Parts) → (task : ReadsTask name before between t) →
    (p : ReadsProof u proof between now) → HasPasses before now (task.bytes ∷ p.bytes ∷ [])
two_passes name proof before between now t u task p =
    ended_first name before between now task.bytes (p.bytes ∷ []) task.read (ended_alone proof between now p.bytes p.read)

-- where one file alone was read, in one pass, no task and no proof were
once_unproved : (name proof : List ℕ) (before between now : List Read) (t : Parts) → ReadsOnce name before now →
    ReadsTask name before between t → ReadsProof t proof between now → ⊥
once_unproved name proof before between now t (bytes, inl on) task p =
    none_is_some task.bytes (p.bytes ∷ [])
    (same_passes before now [] (task.bytes ∷ p.bytes ∷ []) (unended name before now bytes on)
    (two_passes name proof before between now t t task p))
once_unproved name proof before between now t (bytes, inr whole) task p =
    one_is_two bytes task.bytes p.bytes
    (same_passes before now (bytes ∷ []) (task.bytes ∷ p.bytes ∷ []) (ended_alone name before now bytes whole)
    (two_passes name proof before between now t t task p))

-- no task was given
pub none_verified : (name proof : List ℕ) (before now : List Read) (file : Known) (b n : ℕ) (stop : Exit) → ReadsOnce name before now →
    ExitsWith (GivesNoTask file b n) stop → ExitsWith (VerifiesRead name proof before now) stop
none_verified name proof before now file b n stop once =
    stops_by (GivesNoTask file b n) (VerifiesRead name proof before now)
    (λ status text none. record {
      only = λ e. absurd ((without_task file b n status text none).not_accepted e);
      all = λ t between task p. absurd (once_unproved name proof before between now t once task p);
    }) stop

-- a proof that was read after a task is one that was read after the same task another way
same_proof : (name proof : List ℕ) (before between other now : List Read) (t u : Parts) → ReadsTask name before between t →
    ReadsOnce proof between now → ReadsTask name before other u → ReadsProof u proof other now → ReadsProof t proof between now
same_proof name proof before between other now t u reads (bytes, inl on) task p =
    absurd (one_is_two reads.bytes task.bytes p.bytes
    (same_passes before now (reads.bytes ∷ []) (task.bytes ∷ p.bytes ∷ [])
    (ended_first name before between now reads.bytes [] reads.read (unended proof between now bytes on))
    (two_passes name proof before other now u u task p)))
same_proof name proof before between other now t u reads (bytes, inr whole) task p =
    let same =
    same_two reads.bytes bytes task.bytes p.bytes
    (same_passes before now (reads.bytes ∷ bytes ∷ []) (task.bytes ∷ p.bytes ∷ [])
    (ended_first name before between now reads.bytes (bytes ∷ []) reads.read (ended_alone proof between now bytes whole))
    (two_passes name proof before other now u u task p)) in
    let spelled : Spells task.bytes t = subst (λ (b : List ℕ). Spells b t) same.0 reads.spells in
    let one : u ≡ t = text.one_parse task.bytes u t task.spells.text spelled.text in
    record {
      bytes = bytes;
      read = whole;
      fits = subst (λ (b : List ℕ). length b ≤ proof_limit) (sym same.1) p.fits;
      passes = subst (λ (b : List ℕ). Passes t b) (sym same.1) (subst (λ (v : Parts). Passes v p.bytes) one p.passes);
    }

-- a task that was read, and then a proof's file
pub verified_read : (name proof : List ℕ) (before between now : List Read) (t : Parts) → ReadsTask name before between t →
    (r : Result Reply Exit) → IfOk r (λ (p : Reply). PassesRead t proof between now p.status p.text.items) →
    IfErr r (ExitsWith (PassesRead t proof between now)) →
    IfOk r (λ (p : Reply). VerifiesRead name proof before now p.status p.text.items) × IfErr r
    (ExitsWith (VerifiesRead name proof before now))
verified_read name proof before between now t reads r ok stop =
    result_by (PassesRead t proof between now) (VerifiesRead name proof before now)
    (λ status text a. record {
      only = λ e. (t, between, reads, a.exactly.0 e, a.free e);
      all = λ u other task p. a.exactly.1 (same_proof name proof before between other now t u reads a.once task p);
    }) r ok stop

-- the bytes of one pass, and those of one to its end
same_bytes : (name : List ℕ) (before now : List Read) (bytes others : List ℕ) →
    ReadsOn name before now bytes ⊎ ReadsWhole name before now bytes → ReadsWhole name before now others → bytes ≡ others
same_bytes name before now bytes others (inl on) whole =
    absurd (none_is_some others []
    (same_passes before now [] (others ∷ []) (unended name before now bytes on) (ended_alone name before now others whole)))
same_bytes name before now bytes others (inr ended) whole =
    same_one bytes others
    (same_passes before now (bytes ∷ []) (others ∷ []) (ended_alone name before now bytes ended) (ended_alone name before now others whole))

-- where a proof was read, the checker's answer is that it passes
read_passes : (t : Parts) (name : List ℕ) (before now : List Read) (r : Result Checked CheckError) →
    (a : AnswersRead name before now proof_limit (subject_of t) r) → ReadsProof t name before now →
    file_answer proof_limit (subject_of t) a.bytes ≡ Judged Pass
read_passes t name before now r a p =
    ap (file_answer proof_limit (subject_of t)) (same_bytes name before now a.bytes p.bytes a.read p.read)
    ∙ fitting_passes t p.bytes p.fits p.passes

proof_accepted : (t : Parts) (name : List ℕ) (before now : List Read) (r : Result Checked CheckError) (status : Status) (text : List ℕ) →
    AnswersRead name before now proof_limit (subject_of t) r → SaysChecked r status text → ReadsProof t name before now → status ≡ Accepted
proof_accepted t name before now (Ok c) status text a says p =
    says.ended ∙ ap answer_status (sym a.tells ∙ read_passes t name before now (Ok c) a p)
proof_accepted t name before now (Err check.TooLong) status text a says p =
    says.ended ∙ ap answer_status (sym a.tells ∙ read_passes t name before now (Err check.TooLong) a p)
proof_accepted t name before now (Err check.ReadFault) status text a says p =
    absurd (none_is_some p.bytes []
    (same_passes before now [] (p.bytes ∷ []) (unended name before now a.bytes (a.part refl)) (ended_alone name before now p.bytes p.read)))
proof_accepted t name before now (Err check.Memory) status text a says p = absurd says

-- only where it passes is the answer Accepted
accepted_pass : (r : Result Checked CheckError) (status : Status) (text : List ℕ) → SaysChecked r status text → status ≡ Accepted →
    r ≡ Ok checked.Pass
accepted_pass (Ok checked.Pass) status text says e = refl
accepted_pass (Ok (checked.Rejected line word)) status text says e = let is = says.ended in absurd (cc)
accepted_pass (Err check.TooLong) status text says e = let is = says.ended in absurd (cc)
accepted_pass (Err check.ReadFault) status text says e = let is = says.ended in absurd (cc)
accepted_pass (Err check.Memory) status text says e = absurd says

pass_read : (t : Parts) (name : List ℕ) (before now : List Read) (r : Result Checked CheckError) →
    AnswersRead name before now proof_limit (subject_of t) r → r ≡ Ok checked.Pass → ReadsProof t name before now
pass_read t name before now (Ok checked.Pass) a e =
    let both = passing_fits t a.bytes a.tells in
    record { bytes = a.bytes; read = a.whole refl; fits = both.0; passes = both.1 }
pass_read t name before now (Ok (checked.Rejected line word)) a e = absurd (cc)
pass_read t name before now (Err x) a e = absurd (cc)

-- a proof's file that was read, and what the checker says of it
pub passed_read : (t : Parts) (name : List ℕ) (before now : List Read) (r : Result Checked CheckError) (status : Status) (text : List ℕ) →
    AnswersRead name before now proof_limit (subject_of t) r → (r ≡ Ok checked.Pass → ConflictFree (task_of t)) →
    SaysChecked r status text → PassesRead t name before now status text
passed_read t name before now r status text a free says = record {
  once = (a.bytes, a.read);
  exactly = (
    λ e. pass_read t name before now r a (accepted_pass r status text says e),
    λ p. proof_accepted t name before now r status text a says p,
  );
  free = λ e. free (accepted_pass r status text says e);
}
