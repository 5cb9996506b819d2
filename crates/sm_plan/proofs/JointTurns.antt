-- Loops side by side: what each joint turn keeps, holds where all have ended.
use Rattle.sm_plan.proofs.Imports.{◌≡◌, ℕ, zero, suc, Bool, true, false, Option, Some, refl, ap, sym, ◌∙◌, subst, ⊎_elim, fun_ext, Store, turns, Copy}
use Rattle.sm_plan.proofs.CopiesLemmas.{some_or_none}
use Rattle.sm_plan.proofs.StatementsLemmas.{one_turn, no_turn, still}

-- one turn of each copy whose guard is true; the others stay, and there is one that doesn't
pub record Joint (guard : Copy → Store → Bool) (body : Copy → Store → Option Store) (s t : Copy → Store) : Type 0 where
  pub some : (c : Copy) × (guard c (s c) ≡ true)
  pub moved : (c : Copy) → guard c (s c) ≡ true → body c (s c) ≡ Some (t c)
  pub stayed : (c : Copy) → guard c (s c) ≡ false → t c ≡ s c

-- a store in the middle: one turn further, or the same where the guard is false
record Middle (guard : Store → Bool) (body : Store → Option Store) (n : ℕ) (s t : Store) : Type 0 where
  store : Store
  moved : guard s ≡ true → body s ≡ Some store
  stayed : guard s ≡ false → store ≡ s
  rest : turns guard body n store ≡ Some t

-- it is there
middle : (guard : Store → Bool) (body : Store → Option Store) (n : ℕ) (s t : Store) → turns guard body (suc n) s ≡ Some t
    → Middle guard body n s t
middle guard body n s t e =
    ⊎_elim
    (λ (p : (guard s ≡ true) × (u : Store) × (body s ≡ Some u) × (turns guard body n u ≡ Some t)). record {
      store = p.1;
      moved = λ (h : guard s ≡ true). p.2;
      stayed = λ (h : guard s ≡ false). absurd (let g = p.0 in cc);
      rest = p.3;
    })
    (λ (p : (guard s ≡ false) × (t ≡ s)). record {
      store = s;
      moved = λ (h : guard s ≡ true). absurd (let g = p.0 in cc);
      stayed = λ (h : guard s ≡ false). refl;
      rest = still guard body n s p.0 ∙ ap (λ (u : Store). Some u) (sym p.1);
    })
    (one_turn (guard s) (body s) (turns guard body n) s t e)

-- a loop whose guard is false ends where it is
ended : (guard : Store → Bool) (body : Store → Option Store) (n : ℕ) (s t : Store) → guard s ≡ false → turns guard body n s ≡ Some t → t ≡ s
ended guard body n s t false_here e = let there = still guard body n s false_here in cc

-- where no guard is true, all have ended
all_ended : (guard : Copy → Store → Bool) (body : Copy → Store → Option Store) (I : (Copy → Store) → Type 0) (n : ℕ) (s t : Copy → Store)
    → I s →
    ((c : Copy) → turns (guard c) (body c) n (s c) ≡ Some (t c)) → ((c : Copy) → guard c (s c) ≡ false)
    → I t × ((c : Copy) → guard c (t c) ≡ false)
all_ended guard body I n s t h ends none =
    let same : (c : Copy) → t c ≡ s c = λ (c : Copy). ended (guard c) (body c) n (s c) (t c) (none c) (ends c) in
    (subst I (sym (fun_ext same)) h, λ (c : Copy). ap (guard c) (same c) ∙ none c)

-- what each joint turn keeps, holds at the end
pub together : (guard : Copy → Store → Bool) (body : Copy → Store → Option Store) (I : (Copy → Store) → Type 0) →
    ((s t : Copy → Store) → I s → Joint guard body s t → I t) →
    (n : ℕ) (s t : Copy → Store) → I s → ((c : Copy) → turns (guard c) (body c) n (s c) ≡ Some (t c))
    → I t × ((c : Copy) → guard c (t c) ≡ false)
together guard body I keeps zero s t h ends =
    all_ended guard body I zero s t h ends (λ (c : Copy). (no_turn (guard c (s c)) (s c) (t c) (ends c)).0)
together guard body I keeps (suc n) s t h ends =
    let mid : (c : Copy) → Middle (guard c) (body c) n (s c) (t c) = λ (c : Copy). middle (guard c) (body c) n (s c) (t c) (ends c) in
    ⊎_elim
    (λ (one : (c : Copy) × (guard c (s c) ≡ true)).
    together guard body I keeps n (λ (c : Copy). (mid c).store) t
    (keeps s (λ (c : Copy). (mid c).store) h
    (record { some = one; moved = λ (c : Copy). (mid c).moved; stayed = λ (c : Copy). (mid c).stayed }))
    (λ (c : Copy). (mid c).rest))
    (λ (none : (c : Copy) → guard c (s c) ≡ false). all_ended guard body I (suc n) s t h ends none)
    (some_or_none (λ (c : Copy). guard c (s c)))
