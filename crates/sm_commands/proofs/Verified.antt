-- `verify` accepts exactly the proof files that pass for the task that the task's file gives.
use Rattle.sm_commands.proofs.Imports.{◌≡◌, ◌≢◌, ◌<◌, ◌≤◌, inl, inr, ℕ, List, length, Some, sym, subst, arith, ◌↔◌, Known, holds, WhereHeld, Parts, Spells, file_limit, GivesNoTask, GivesTask, Status, Accepted, ReadFault, IsProved, Files, IsAnswerTo, Verifies, Words, asked, verify, without_task}
use Rattle.sm_proof.specs.Verdicts.{Passes}
use Rattle.sm_text.proofs.Complete.Tasks as text
use Rattle.sm_answers.proofs.Verified.{passing_accepted, accepted_passing}

-- a file that gives no task has no proof
none_proved : (file : Known) (before now : ℕ) (status : Status) (text bytes lines : List ℕ) → GivesNoTask file before now status text
    → status ≢ ReadFault → file ≡ holds bytes → IsProved bytes lines → ⊥
none_proved file before now status text bytes lines (inl (inl f)) no_fault told p = no_fault f.says.ended
none_proved file before now status text bytes lines (inl (inr f)) no_fault told p =
    let over : file_limit < length bytes = f.over bytes told in omega (arith, over, p.short)
none_proved file before now status text bytes lines (inr f) no_fault told p =
    f.refuses.spells_none p.parts (subst (λ (b : List ℕ). Spells b p.parts) (f.read.held bytes told) p.spells)

-- the task that a file gives is the one that is proved
one_task : (file : Known) (before now : ℕ) (t : Parts) (bytes lines : List ℕ) → GivesTask file before now t → file ≡ holds bytes
    → (p : IsProved bytes lines) → p.parts ≡ t
one_task file before now t bytes lines gives told p =
    let spelled : Spells gives.bytes p.parts = subst (λ (b : List ℕ). Spells b p.parts) (gives.read.held bytes told) p.spells in
    text.one_parse gives.bytes p.parts t spelled.text gives.spells.text

proved_where : (file proof : Known) (before now : ℕ) (status : Status) (line bytes lines : List ℕ)
    → Verifies file proof before now status line → status ≢ ReadFault → file ≡ holds bytes → proof ≡ holds lines
    → (status ≡ Accepted) ↔ IsProved bytes lines
proved_where file proof before now status line bytes lines (inl f) no_fault told given = (
  λ e. absurd ((without_task file before now status line f).not_accepted e),
  λ p. absurd (none_proved file before now status line bytes lines f no_fault told p),
)
proved_where file proof before now status line bytes lines (inr c) no_fault told given = (
  λ e.
      let passing = accepted_passing c.task proof c.between now status line lines c.answers e given in
      let same = sym (c.gives.read.held bytes told) in
      record {
        parts = c.task;
        spells = subst (λ (b : List ℕ). Spells b c.task) same c.gives.spells;
        passes = passing.1;
        short = subst (λ (b : List ℕ). length b ≤ file_limit) same c.gives.read.within;
        fits = passing.0;
      },
  λ p.
      passing_accepted c.task proof c.between now status line lines c.answers no_fault given p.fits
      (subst (λ (t : Parts). Passes t lines) (one_task file before c.between c.task bytes lines c.gives told p) p.passes),
)

pub verifies_exactly : (words : Words) (files : Files) (before now : ℕ) (status : Status) (line : List ℕ)
    → IsAnswerTo words files before now status line → status ≢ ReadFault → (task proof : List ℕ) (workers : ℕ)
    → asked words ≡ Some (verify task proof workers) →
    WhereHeld (files task) (λ (bytes : List ℕ).
    WhereHeld (files proof) (λ (lines : List ℕ). (status ≡ Accepted) ↔ IsProved bytes lines))
verifies_exactly words files before now status line answers no_fault task proof workers asks bytes told lines given =
    proved_where (files task) (files proof) before now status line bytes lines (rw asks at answers) no_fault told given
