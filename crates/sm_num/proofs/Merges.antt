-- The sum of two lists of parts where one of them has ended.
use Rattle.sm_num.proofs.Imports.{◌≡◌, ◌-◌, ◌⊎◌, inl, inr, ℕ, ℤ, List, [], ◌∷◌, ◌++◌, length, drop, take, refl, sym, ap, subst, ◌∙◌, arith, Outcome, Fits, Leaves, then_with, computed, led_by, scaled, merged, Mul, Explains, NumError, Beyond, Memory, behind}
use Rattle.std.proofs.lemmas.List.{append_assoc, append-nil, length-drop}
use Rattle.sm_num.proofs.KeptForms.{take_all}

-- after nothing
behind-nil : (parts : Outcome (List (ℕ × ℤ))) → behind [] parts ≡ parts
behind-nil (Fits ps) = refl
behind-nil (Leaves op y z) = refl

-- after two lists
behind-behind : (out more : List (ℕ × ℤ)) (parts : Outcome (List (ℕ × ℤ))) → behind out (behind more parts) ≡ behind (out ++ more) parts
behind-behind out more (Fits ps) = ap Fits (sym (append_assoc out more ps))
behind-behind out more (Leaves op y z) = refl

-- where a number leaves the range, so does what follows from it
pub explains_then : {S T : Type 0} (c : Outcome S) (next : S → Outcome T) (e : NumError) → Explains c e → Explains (then_with c next) e
explains_then c next (Beyond op y z) fails = ap (λ d. then_with d next) fails
explains_then c next Memory fails = tt

-- where the second list has ended
merged-nil : (p q : ℤ) (fs : List (ℕ × ℤ)) → merged p q fs [] ≡ scaled p fs
merged-nil p q [] = refl
merged-nil p q (f ∷ fs) = ap (λ (rest : Outcome (List (ℕ × ℤ))). led_by f.0 (computed Mul p f.1) rest) (merged-nil p q fs)

-- where either list has ended, the other follows
merged_end : (p q : ℤ) (fs gs : List (ℕ × ℤ)) → (fs ≡ []) ⊎ (gs ≡ []) →
    merged p q fs gs ≡ then_with (scaled p fs) (λ (ps : List (ℕ × ℤ)). behind ps (scaled q gs))
merged_end p q fs gs (inl none) =
    ap (λ (l : List (ℕ × ℤ)). merged p q l gs) none ∙ sym (behind-nil (scaled q gs)) ∙
    ap (λ (l : List (ℕ × ℤ)). then_with (scaled p l) (λ (ps : List (ℕ × ℤ)). behind ps (scaled q gs))) (sym none)
merged_end p q fs gs (inr none) =
    ap (merged p q fs) none ∙ merged-nil p q fs ∙ sym (alone (scaled p fs)) ∙
    ap (λ (l : List (ℕ × ℤ)). then_with (scaled p fs) (λ (ps : List (ℕ × ℤ)). behind ps (scaled q l))) (sym none)
  where
    alone : (o : Outcome (List (ℕ × ℤ))) → then_with o (λ (ps : List (ℕ × ℤ)). behind ps (Fits [])) ≡ o
    alone (Fits ps) = ap Fits (append-nil ps)
    alone (Leaves op y z) = refl

-- what goes after a list that was put, and what was after nothing yet
behind_then : (out : List (ℕ × ℤ)) (first second : Outcome (List (ℕ × ℤ))) (new : List (ℕ × ℤ)) → behind out first ≡ Fits new →
    behind out (then_with first (λ (ps : List (ℕ × ℤ)). behind ps second)) ≡ behind new second
behind_then out (Fits ps) second new done =
    behind-behind out ps second ∙ ap (λ (o : Outcome (List (ℕ × ℤ))). then_with o (λ (l : List (ℕ × ℤ)). behind l second)) done
behind_then out (Leaves op y z) second new done = absurd cc

module _ (p q : ℤ) (fs gs : List (ℕ × ℤ)) (ended : (fs ≡ []) ⊎ (gs ≡ [])) (whole : Outcome (List (ℕ × ℤ))) (out : List (ℕ × ℤ))
    (sum : whole ≡ behind out (merged p q fs gs)) where
  at_end : whole ≡ behind out (then_with (scaled p fs) (λ (ps : List (ℕ × ℤ)). behind ps (scaled q gs)))
  at_end = sum ∙ ap (behind out) (merged_end p q fs gs ended)

  -- what is left of both lists was put
  pub ends : (once twice : List (ℕ × ℤ)) → behind out (scaled p fs) ≡ Fits once → behind once (scaled q gs) ≡ Fits twice →
      whole ≡ Fits twice
  ends once twice first second = at_end ∙ behind_then out (scaled p fs) (scaled q gs) once first ∙ second

  -- a number of the first leaves the range
  pub first_fails : (e : NumError) → Explains (scaled p fs) e → Explains whole e
  first_fails e fails =
      subst (λ (o : Outcome (List (ℕ × ℤ))). Explains o e) (sym at_end)
      (explains_then (then_with (scaled p fs) (λ (ps : List (ℕ × ℤ)). behind ps (scaled q gs))) (λ (ps : List (ℕ × ℤ)). Fits (out ++ ps)) e
      (explains_then (scaled p fs) (λ (ps : List (ℕ × ℤ)). behind ps (scaled q gs)) e fails))

-- a list from a place to its end
pub rest_from : {A : Type 0} (i : ℕ) (l : List A) → take (length l - i) (drop i l) ≡ drop i l
rest_from i l = let long = length-drop i l in take_all (length l - i) (drop i l) (omega arith)
