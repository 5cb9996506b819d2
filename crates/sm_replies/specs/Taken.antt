-- Which certificates are taken for a task: the proofs that pass. No public clause cites it.
use Rattle.std.specs.Prelude.{◌≡◌, ℕ, Bool, true, false, List}
use Rattle.std.proofs.Common.{refl}
use Rattle.sm_check.proofs.SpelledCheckable.{spelled_checkable}
use Rattle.sm_proof.proofs.PassSound.{pass_free}
use Rattle.sm_proof.specs.Verdicts.{Verdict, Pass, Rejected, subject_of, verdict}
use Rattle.sm_syntax.specs.claim.ConflictFree.{ConflictFree}
use Rattle.sm_syntax.specs.text.Parts.{Parts, task_of}
use Rattle.sm_text.specs.printing.Named.{HasText}

-- whether a verdict is that all lines pass
abbrev pub is_pass : Verdict → Bool
is_pass Pass = true
is_pass (Rejected line word) = false

-- whether a certificate passes for a task
abbrev pub is_taken : Parts → List ℕ → Bool
is_taken t cert = is_pass (verdict (subject_of t) cert)

pass_of : (v : Verdict) → is_pass v ≡ true → v ≡ Pass
pass_of Pass e = refl
pass_of (Rejected line word) e = absurd cc

-- such a task is free of conflicts
pub taken_free : (t : Parts) (cert : List ℕ) → HasText t → is_taken t cert ≡ true → ConflictFree (task_of t)
taken_free t cert has taken =
    pass_free t cert (spelled_checkable has.0 t has.1).sorted (pass_of (verdict (subject_of t) cert) taken)
