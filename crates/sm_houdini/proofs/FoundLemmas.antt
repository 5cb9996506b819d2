-- What a search comes to, case by case.
use Rattle.sm_houdini.proofs.Imports.{◌≡◌, inl, inr, ℕ, Bool, true, false, refl, sym, ap, ◌∙◌, Copy, program_of, Parts, sort_of, task_of, of_copy, code_of, IsFirstViolation, Verdict, Reach, Outcome, Accepted, Conflict, or_conflict, IsOutcome, plan_decides}
use Rattle.std.proofs.Common.{Option, Some, None}
use Rattle.sm_syntax.specs.declared.copies.PerCopy.{PerCopy}
use Rattle.sm_syntax.specs.declared.tree.Block.{Block}
use Rattle.sm_task.specs.Filling.{AreFilled}
use Rattle.sm_sided.specs.OneSided.{is_one_sided}

module _ (t : Parts) (programs : PerCopy Block) (filled : AreFilled t programs) (sided : Bool)
    (exact : sided ≡ is_one_sided (λ (c : Copy). code_of (of_copy programs c))) (reach : Reach) (turns : ℕ) where
  -- whether one side was changed
  sided_is : (b : Bool) → sided ≡ b → is_one_sided (program_of (task_of t)) ≡ b
  sided_is b e = ap is_one_sided (λ i c. sym (filled c) i) ∙ sym exact ∙ e

  pub comes_accepted : sided ≡ true → IsOutcome t reach turns Accepted
  comes_accepted e = inl (sided_is true e, refl)

  pub comes_conflict : sided ≡ false → (found : ℕ × Verdict) → IsFirstViolation (task_of t) (sort_of t.declared) turns (Some found) →
      IsOutcome t reach turns (Conflict found)
  comes_conflict e found first = inr (sided_is false e, (Some found, first, refl))

  pub comes_planned : sided ≡ false → (none : Option (ℕ × Verdict)) → none ≡ None →
      IsFirstViolation (task_of t) (sort_of t.declared) turns none → (o : Outcome (ℕ × Verdict)) → o ≡ plan_decides t reach →
      IsOutcome t reach turns o
  comes_planned e none is first o tells =
      inr (sided_is false e, (none, first, tells ∙ ap (λ (f : Option (ℕ × Verdict)). or_conflict f (plan_decides t reach)) (sym is)))
