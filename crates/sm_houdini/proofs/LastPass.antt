-- What the last pass over the obligations of what is kept comes upon.
use Rattle.sm_houdini.proofs.Imports.{◌≡◌, ℕ, Bool, true, false, is_none, List, [], ◌∷◌, refl, sym, ap, ◌∙◌, subst, Parts, task_of, Assertion, obligations, Each, plan_of, AllClose, AllOwnedClose, AreFinalUnowned, owner_of, kept}
use Rattle.std.proofs.Common.{Option, Some, None, Ok}
use Rattle.sm_plan.specs.Plans.{Due}
use Rattle.sm_houdini.specs.Rounds.{dues_in}
use Rattle.sm_houdini.proofs.OwnersLemmas.{owners_final}
use Rattle.sm_houdini.proofs.RoundsLemmas.{kept_inductive}

-- goals that aren't final close
abbrev pub ClosesInside : (List Assertion → Assertion → Bool) → Due → Type 0
ClosesInside closes d = d.is_final ≡ false → AllClose (closes d.facts) d.goals

module _ (closes : List Assertion → Assertion → Bool) (t : Parts) where
  inside : (ds : List Due) → AreFinalUnowned t ds → AllOwnedClose closes t ds → Each (ClosesInside closes) ds
  inside [] finals owned = tt
  inside (d ∷ ds) finals owned = (
    λ (h : d.is_final ≡ false). by (owner_of t d) refl (sym finals.0 ∙ h),
    inside ds finals.1 owned.1,
  )
    where
      by : (o : Option ℕ) → owner_of t d ≡ o → is_none (owner_of t d) ≡ false → AllClose (closes d.facts) d.goals
      by None e h = absurd (different (sym (ap is_none e) ∙ h))
        where
          different : true ≡ false → ⊥
          different f = absurd cc
      by (Some s) e h = owned.0 s e

  -- so it is of each obligation of what is kept
  pub inside_close : (ds : List Due) → obligations (task_of t) (plan_of t (kept closes t)) ≡ Ok ds → Each (ClosesInside closes) ds
  inside_close ds e =
      inside ds (owners_final t (kept closes t) ds e)
      (subst (AllOwnedClose closes t) (ap dues_in e) (kept_inductive closes t).1)
